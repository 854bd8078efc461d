use Rattle.std.proofs.Common.{◌≡◌, ◌+◌, ◌<◌, ◌^◌, [], length}
use Rattle.interleave.specs.Listing.{listing}
use Rattle.interleave.proofs.parse.list.Given as goal

-- the rest is listed as the whole is, and its lines can be counted
abbrev pub invariant-loop-raw : goal.invariant-loop-raw
invariant-loop-raw l = record {
  same : listing l.events l.line l.left ≡ listing [] l.first l.fn.left;
  counted : l.line + length l.left < 2 ^ 64;
}

abbrev pub decreases-loop-raw : goal.decreases-loop-raw
decreases-loop-raw l = length l.left
