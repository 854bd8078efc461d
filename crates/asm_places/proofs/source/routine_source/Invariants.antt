use Rattle.std.proofs.Common.{◌≡◌, ◌+◌, ◌++◌, length}
use Rattle.std.specs.Prelude.{All}
use Rattle.text.specs.Cut.{lines_of}
use Rattle.text.specs.Places.{IsIn, numbers}
use Rattle.asm_places.specs.Outline.{outline_from, outline_lines}
use Rattle.asm_places.specs.Source.{lines_from}
use Rattle.asm_places.specs.declared.source.Sought.TheVariants.{Driver}
use Rattle.asm_places.proofs.source.routine_source.Given as goal

-- the lines that were found, and those that are found in the rest, are those of the whole text, and
-- each stands in it
abbrev pub invariant-loop-raw : goal.invariant-loop-raw
invariant-loop-raw l = record {
  same :
      numbers l.lines ++ lines_from l.routine l.sought (l.left.taken + 1) l.left.left
      ≡ lines_from l.routine (Driver l.driver) 1 (lines_of l.text);
  outlined :
      numbers l.outline ++ outline_from (l.left.taken + 1) l.left.left ≡ outline_lines l.text;
  text : l.left.text ≡ l.text;
  whole : l.left.skipped ≡ 0;
  lines_there : All (IsIn 0 l.text) l.lines;
  outline_there : All (IsIn 0 l.text) l.outline;
}

abbrev pub decreases-loop-raw : goal.decreases-loop-raw
decreases-loop-raw l = length l.left.left
