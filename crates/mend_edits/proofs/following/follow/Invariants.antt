use Rattle.std.proofs.Common.{◌≡◌, Some, drop, length}
use Rattle.text.specs.Cut.{lines_of}
use Rattle.mend_edits.specs.Diff.{at_start, followed}
use Rattle.mend_edits.proofs.following.follow.Given as goal

-- the lines that are left lead from here to where all lead; the later ones stand behind the next
abbrev pub invariant-loop-line : goal.invariant-loop-line
invariant-loop-line l =
    (followed (lines_of l.fn.diff) (Some (at_start l.fn.text))
    ≡ followed l.left (Some l.progress))
    × (l.later ≡ drop 1 l.left)

abbrev pub decreases-loop-line : goal.decreases-loop-line
decreases-loop-line l = length l.left
