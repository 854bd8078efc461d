use Rattle.scenario_run.specs.Playing.{begun}
use Rattle.answer_scenarios.proofs.Failing.{begins_if}
use Rattle.answer_scenarios.proofs.finding.begins_amiss.Goals as goal

pub returns : goal.returns
returns c =
    begins_if (begun c.args.set.now c.args.find.threads) c.in_ok-playing.playing c.args.steps.now
    c.args.find.events.now c.args.last.now c.comes_amiss.result c.in_ok-playing.ensures
    c.comes_amiss.ensures
