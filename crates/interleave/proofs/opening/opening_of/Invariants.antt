use Rattle.std.proofs.Common.{◌≡◌, ◌+◌, ◌≤◌, ◌^◌, length}
use Rattle.text.specs.Cut.{lines_of}
use Rattle.interleave.specs.Listing.{start}
use Rattle.interleave.proofs.opening.opening_of.Given as goal

-- the rest starts as the whole does, and its lines can be counted
abbrev pub invariant-loop-raw : goal.invariant-loop-raw
invariant-loop-raw l = record {
  same : start l.line l.left ≡ start 1 (lines_of l.text);
  counted : l.line + length l.left ≤ 2 ^ 63;
}

abbrev pub decreases-loop-raw : goal.decreases-loop-raw
decreases-loop-raw l = length l.left
