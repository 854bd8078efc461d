use Rattle.scenario_together.proofs.Plain.{plain_plays}
use Rattle.scenario_together.proofs.play.play_plainly.Goals as goal

pub returns : goal.returns
returns c =
    rw c.failure_at.ensures
    (plain_plays c.args.playing c.args.steps.now _ c.in_ok-failed.failed c.requires
    c.in_ok-failed.ensures)
