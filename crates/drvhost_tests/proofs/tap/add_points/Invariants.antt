use Rattle.std.proofs.Common.{◌≡◌, ◌+◌, ◌++◌, drop, false, string_bytes}
use Rattle.drvhost_tests.specs.Reports.{test_points}
use Rattle.drvhost_tests.proofs.tap.add_points.Given as goal

abbrev pub invariant-loop-place : goal.invariant-loop-place
invariant-loop-place l =
    l.words.lacks ≡ false
    → (l.initial.words.lacks ≡ false)
    × (string_bytes l.words.text ++ test_points (l.place + 1) (drop l.place l.fn.cases)
    ≡ string_bytes l.initial.words.text ++ test_points 1 l.fn.cases)
