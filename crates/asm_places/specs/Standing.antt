-- Where the instructions of a routine stand in a text, in the words of a text's reader: each on a
-- line of its own.
use Rattle.std.specs.Prelude.{ℕ, suc, ⊤, ◌≡◌, ◌<◌, ◌+◌, List, [], ◌∷◌, length, Some, slice_get}
use Rattle.asm_line.specs.declared.line.Line.{Line}
use Rattle.asm.specs.Laws.{IsRead}
use Rattle.asm.specs.Names.{inventory}
use Rattle.asm.specs.Parts.{around, driver_around, driver_on, opens_driver, opens_routine, routine_around, routine_on, said, step_on, up_to}
use Rattle.asm.specs.Reading.{IsNamed}
use Rattle.asm.specs.Said.{instruction_on}
use Rattle.model.specs.declared.instr.Instr.{Instr}
use Rattle.model.specs.declared.set.Driver.{Driver}
use Rattle.model.specs.declared.set.Routine.{Routine}
use Rattle.model.specs.Set.{Set}

-- Of all lines of a text the one of this number, from 1, is that of the instruction of a position
-- of a routine of a driver, each counted from 0. Up to it so many drivers begin, and one more, in
-- the last of them so many routines, and one more, and in the last of these stand so many
-- instructions. It says this instruction, with numbers in place of the names that it uses: of what
-- the driver around it has, and of the labels in the routine around it.
pub record StandsOn (all : List Line) (driver routine position : ℕ) (instr : Instr) (number : ℕ)
    : Type 0 where
  pub before : List Line
  pub line : Line
  pub after : List Line
  pub split : all ≡ around before (line ∷ after)
  pub numbered : length before + 1 ≡ number
  pub in_driver : length (said driver_on before) ≡ driver + 1
  pub in_routine : length (said routine_on (up_to opens_driver before)) ≡ routine + 1
  pub in_order : length (said step_on (up_to opens_routine before)) ≡ position
  pub says : instruction_on (inventory (driver_around before (line ∷ after)))
      (routine_around before (line ∷ after)) line.body ≡ Some instr

-- the lines of these numbers are those of these instructions, from a position of a routine on
abbrev pub StandOn : List Line → ℕ → ℕ → ℕ → List Instr → List ℕ → Type 0
StandOn all driver routine position [] [] = ⊤
StandOn all driver routine position (instr ∷ code) (number ∷ numbers) =
    StandsOn all driver routine position instr number
    × StandOn all driver routine (suc position) code numbers
StandOn all driver routine position [] (number ∷ numbers) = ⊥
StandOn all driver routine position (instr ∷ code) [] = ⊥

-- these are the lines of the instructions of a routine, by the numbers of its driver and its own,
-- in the set that a text names
abbrev pub AreLinesOf : List ℕ → ℕ → ℕ → List ℕ → Type 0
AreLinesOf text driver routine numbers =
    (set : Set) (d : Driver) (r : Routine) → IsNamed text set
    → slice_get set.drivers driver ≡ Some d → slice_get d.routines routine ≡ Some r
    → (all : IsRead text) × StandOn all.lines driver routine 0 r.code numbers

-- one line at most is that of the instruction of a position of a routine of a driver
abbrev pub OneLineEach : Type 0
OneLineEach = (all : List Line) (driver routine position : ℕ) (i j : Instr) (n m : ℕ)
    → StandsOn all driver routine position i n → StandsOn all driver routine position j m → n ≡ m

-- each number is greater than the one before it, and the first than this one
abbrev pub RisesFrom : ℕ → List ℕ → Type 0
RisesFrom last [] = ⊤
RisesFrom last (number ∷ numbers) = (last < number) × RisesFrom number numbers

-- the numbers of lines rise
abbrev pub Rises : List ℕ → Type 0
Rises numbers = RisesFrom 0 numbers
