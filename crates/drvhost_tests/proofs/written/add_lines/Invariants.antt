use Rattle.std.proofs.Common.{◌≡◌, ◌++◌, false, length, string_bytes}
use Rattle.text.specs.Cut.{lines_of}
use Rattle.drvhost_tests.specs.Written.{lines_written}
use Rattle.drvhost_tests.proofs.written.add_lines.Given as goal

abbrev pub invariant-loop-line : goal.invariant-loop-line
invariant-loop-line l =
    l.words.lacks ≡ false
    → (l.initial.words.lacks ≡ false)
    × (string_bytes l.words.text ++ lines_written l.fn.place l.fn.before l.left
    ≡ string_bytes l.initial.words.text ++ lines_written l.fn.place l.fn.before (lines_of l.fn.text))

abbrev pub decreases-loop-line : goal.decreases-loop-line
decreases-loop-line l = length l.left
