use Rattle.std.proofs.Common.{◌≡◌, ◌<◌, ◌+◌, ◌^◌, length}
use Rattle.asm.specs.Outline.{IsOrderly}
use Rattle.asm.specs.Drafting.{draft_reading}
use Rattle.asm.proofs.draft.Draft.read_all.Given as goal

-- the rest is read as the whole is, and its lines can be counted
abbrev pub invariant-loop-raw : goal.invariant-loop-raw
invariant-loop-raw l = record {
  same : draft_reading l.self l.line l.left ≡ draft_reading l.fn.self 1 l.fn.left;
  orderly : IsOrderly l.self;
  counted : l.line + length l.left < 2 ^ 64;
}

abbrev pub decreases-loop-raw : goal.decreases-loop-raw
decreases-loop-raw l = length l.left
