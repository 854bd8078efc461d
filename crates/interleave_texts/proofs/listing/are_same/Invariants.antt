use Rattle.std.proofs.Common.{◌≡◌, length}
use Rattle.interleave_texts.proofs.listing.are_same.Given as goal

-- what is left of both is the same where all of both is
abbrev pub invariant-loop-one : goal.invariant-loop-one
invariant-loop-one l =
    record {
      all : l.left ≡ l.right → l.some ≡ l.others;
      left : l.some ≡ l.others → l.left ≡ l.right;
    }

abbrev pub decreases-loop-one : goal.decreases-loop-one
decreases-loop-one l = length l.left
