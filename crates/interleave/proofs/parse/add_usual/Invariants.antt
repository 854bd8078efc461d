use Rattle.std.proofs.Common.{◌≡◌, ℕ, ◌+◌, length}
use Rattle.interleave.specs.Listing.{listing}
use Rattle.interleave.proofs.parse.add_usual.Given as goal

-- the rest is listed as the whole is, and so many lines of it were taken
abbrev pub invariant-loop-left : goal.invariant-loop-left
invariant-loop-left l = record {
  same : (first : ℕ) → listing l.initial.events first l.initial.left ≡ listing l.events (first + l.made) l.left;
  taken : l.made + length l.left ≡ length l.initial.left;
}

abbrev pub decreases-loop-left : goal.decreases-loop-left
decreases-loop-left l = length l.left
