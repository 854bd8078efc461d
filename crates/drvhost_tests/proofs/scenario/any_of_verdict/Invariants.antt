use Rattle.std.proofs.Common.{◌≡◌, take}
use Rattle.std.specs.List.{list_any}
use Rattle.answer_scenarios.specs.Scenarios.{names_in}
use Rattle.drvhost_tests.specs.Tests.{is_held_of_verdict}
use Rattle.drvhost_tests.proofs.scenario.any_of_verdict.Given as goal

-- what was found among so many
abbrev pub invariant-loop-one : goal.invariant-loop-one
invariant-loop-one l =
    l.any ≡ list_any (is_held_of_verdict (names_in l.bytes)) (take l.one-index l.held)
