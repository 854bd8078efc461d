use Rattle.std.proofs.Common.{◌≡◌, ◌++◌, length}
use Rattle.text.specs.Cut.{lines_of}
use Rattle.mend_edits.specs.Patch.{all_kept}
use Rattle.mend_edits.proofs.step.all_kept.Given as goal

-- the steps so far and those of the lines that are left make the whole
abbrev pub invariant-loop-line : goal.invariant-loop-line
invariant-loop-line l = l.steps.items ++ all_kept l.left ≡ all_kept (lines_of l.fn.text)

abbrev pub decreases-loop-line : goal.decreases-loop-line
decreases-loop-line l = length l.left
