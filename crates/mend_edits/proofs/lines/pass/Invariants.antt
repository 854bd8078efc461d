use Rattle.std.proofs.Common.{◌≡◌, drop}
use Rattle.mend_edits.proofs.lines.pass.Given as goal

-- so many lines more leave what is to be left
abbrev pub invariant-loop-more : goal.invariant-loop-more
invariant-loop-more l = drop l.more l.left ≡ drop l.fn.count l.fn.left

abbrev pub decreases-loop-more : goal.decreases-loop-more
decreases-loop-more l = l.more
