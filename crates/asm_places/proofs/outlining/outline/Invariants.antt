use Rattle.std.proofs.Common.{◌≡◌, ◌+◌, ◌++◌, length}
use Rattle.std.specs.Prelude.{All}
use Rattle.text.specs.Places.{IsIn, numbers}
use Rattle.asm_places.specs.Outline.{outline_from, outline_lines}
use Rattle.asm_places.proofs.outlining.outline.Given as goal

abbrev pub invariant-loop-raw : goal.invariant-loop-raw
invariant-loop-raw l = record {
  outlined :
      numbers l.found ++ outline_from (l.left.taken + 1) l.left.left ≡ outline_lines l.text;
  text : l.left.text ≡ l.text;
  whole : l.left.skipped ≡ 0;
  there : All (IsIn 0 l.text) l.found;
}

abbrev pub decreases-loop-raw : goal.decreases-loop-raw
decreases-loop-raw l = length l.left.left
