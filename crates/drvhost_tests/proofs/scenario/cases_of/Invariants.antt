use Rattle.std.proofs.Common.{take}
use Rattle.std.specs.List.{AllZip}
use Rattle.drvhost_tests.specs.Tests.{IsTestHeld}
use Rattle.drvhost_tests.specs.Told.{asked_of, tested_of}
use Rattle.drvhost_tests.proofs.scenario.cases_of.Given as goal

abbrev pub invariant-loop-i : goal.invariant-loop-i
invariant-loop-i l =
    AllZip (IsTestHeld (asked_of l.suite.tests) (tested_of l.subject)) (take l.i l.held)
    l.cases.items
