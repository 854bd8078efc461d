use Rattle.std.proofs.Common.{◌≡◌, ◌++◌, drop, take}
use Rattle.mend_edits.specs.Lines.{all_ended}
use Rattle.mend_edits.proofs.lines.keep.Given as goal

-- so many lines more make the whole, and leave what is to be left
abbrev pub invariant-loop-more : goal.invariant-loop-more
invariant-loop-more l =
    (l.made.items ++ all_ended (take l.more l.left)
    ≡ l.fn.made.items ++ all_ended (take l.fn.count l.fn.left))
    × (drop l.more l.left ≡ drop l.fn.count l.fn.left)

abbrev pub decreases-loop-more : goal.decreases-loop-more
decreases-loop-more l = l.more
