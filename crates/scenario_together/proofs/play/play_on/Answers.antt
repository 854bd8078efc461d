use Rattle.scenario_together.proofs.play.play_on.Goals as goal

pub returns : goal.returns
returns c = c.played_by.ensures c.args.merges c.args.steps.now c.in_ok-over.ensures
