use Rattle.std.proofs.Common.{◌≡◌, ◌++◌, length}
use Rattle.mend_edits.specs.Lines.{all_ended}
use Rattle.mend_edits.proofs.lines.keep_all.Given as goal

-- what is made and the lines that are left make the whole
abbrev pub invariant-loop-line : goal.invariant-loop-line
invariant-loop-line l =
    l.made.items ++ all_ended l.left ≡ l.fn.made.items ++ all_ended l.fn.left

abbrev pub decreases-loop-line : goal.decreases-loop-line
decreases-loop-line l = length l.left
