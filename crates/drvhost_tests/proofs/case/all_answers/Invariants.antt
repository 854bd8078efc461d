use Rattle.std.proofs.Common.{◌≡◌, drop}
use Rattle.drvhost_devices.specs.Told.{joined}
use Rattle.drvhost_tests.specs.Reports.{all_answers}
use Rattle.drvhost_tests.proofs.case.all_answers.Given as goal

abbrev pub invariant-loop-case : goal.invariant-loop-case
invariant-loop-case l =
    joined l.whole (all_answers (drop l.case-index l.cases)) ≡ all_answers l.cases
