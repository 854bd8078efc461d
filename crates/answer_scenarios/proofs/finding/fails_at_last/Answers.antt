use Rattle.std.proofs.Common.{◌≡◌, ◌++◌, ◌∷◌, []}
use Rattle.answer_scenarios.specs.Scenarios.{listed}
use Rattle.answer_scenarios.proofs.Failing.{fails_if}
use Rattle.answer_scenarios.proofs.finding.fails_at_last.Goals as goal

pub returns : goal.returns
returns c =
    let before = c.pop.new.self in
    let last = c.in-Some.last in
    let steps : (listed c.args.scenario).steps ≡ before ++ last ∷ [] = c.in-Some.ensures in
    fails_if c.args.set.now c.args.find.threads c.args.find.events.now (listed c.args.scenario)
    before last c.begins_amiss.result c.if-scenario-find.false steps c.begins_amiss.ensures
