use Rattle.std.proofs.Common.{◌≡◌, ◌+◌, ◌<◌, ◌^◌, length}
use Rattle.scenario_text.specs.Listing.{listing, nothing}
use Rattle.scenario_text.proofs.parse.list.Given as goal

-- the rest is listed as the whole is, and its lines can be counted
abbrev pub invariant-loop-raw : goal.invariant-loop-raw
invariant-loop-raw l = record {
  same : listing l.names l.given l.line l.left
      ≡ listing l.names nothing l.first l.fn.left;
  counted : l.line + length l.left < 2 ^ 64;
}

abbrev pub decreases-loop-raw : goal.decreases-loop-raw
decreases-loop-raw l = length l.left
