use Rattle.std.proofs.Common.{◌≡◌, ◌+◌, ◌<◌, length}
use Rattle.std.specs.Prelude.{max}
use Rattle.text.specs.Cut.{lines_of}
use Rattle.asm_faults.proofs.scope.Scope.pass_lines.Given as goal

-- the lines that were passed stand before the one of the number
abbrev pub invariant-loop-raw : goal.invariant-loop-raw
invariant-loop-raw l = record {
  text : l.left.text ≡ l.text;
  whole : l.left.skipped ≡ 0;
  counted : l.left.taken + length l.left.left ≡ length (lines_of l.text);
  passed : l.left.taken < max 1 l.number;
}

abbrev pub decreases-loop-raw : goal.decreases-loop-raw
decreases-loop-raw l = length l.left.left
