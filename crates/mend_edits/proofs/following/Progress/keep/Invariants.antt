use Rattle.std.proofs.Common.{◌≡◌, Some}
use Rattle.mend_edits.specs.Diff.{kept_times}
use Rattle.mend_edits.proofs.following.Progress.keep.Given as goal

-- so many times more lead from here to where all lead
abbrev pub invariant-loop-left : goal.invariant-loop-left
invariant-loop-left l =
    kept_times l.fn.count (Some l.fn.self) ≡ kept_times l.left (Some l.self)

abbrev pub decreases-loop-left : goal.decreases-loop-left
decreases-loop-left l = l.left
