-- Lines that are listed more than once: those between `repeat` and `end`.
use Rattle.std.specs.Prelude.{ℕ, List, [], ◌∷◌, ◌++◌, bytes_eq, codes, Option, Some, None, Result, Ok, if◌then◌else◌}
use Rattle.interleave.specs.Line.{and_then}
use Rattle.interleave.specs.declared.schedule.ScheduleKind.{ScheduleKind}
use Rattle.scenario_names.specs.Operands.{number_of}
use Rattle.scenario_text.specs.declared.repeating.Block.{Block}
use Rattle.scenario_text.specs.declared.repeating.Block.TheVariants.{Plain, Opens, Ends}
use Rattle.scenario_text.specs.declared.repeating.Numbered.{Numbered}

-- what a line is to those round it: `end` ends a block, `repeat N` opens one, of which the lines are
-- listed so often, and any other is one of the lines
abbrev pub ending : List (List ℕ) → Block
ending [] = Ends
ending (more ∷ rest) = Plain

abbrev pub opening : List (List ℕ) → Result Block ScheduleKind
opening [] = Ok Plain
opening (count ∷ []) = and_then (λ n. Ok (Opens n)) (number_of 1 65536 count)
opening (count ∷ more ∷ rest) = Ok Plain

abbrev pub block_in : List (List ℕ) → Result Block ScheduleKind
block_in [] = Ok Plain
block_in (word ∷ operands) =
    if bytes_eq word (codes "end") then Ok (ending operands)
    else (if bytes_eq word (codes "repeat") then opening operands else Ok Plain)

-- a block that is open: how often its lines are listed, and those of them so far that say something,
-- with their numbers
pub record Open : Type 0 where
  pub times : ℕ
  pub lines : List Numbered

abbrev pub with_line : Open → ℕ → List ℕ → Open
with_line block n line =
    record block { lines = block.lines ++ record { number = n; line = line } ∷ [] }

-- where one is open, a line is kept for it
abbrev pub kept : Option Open → ℕ → List ℕ → Option Open
kept None n line = None
kept (Some block) n line = Some (with_line block n line)
