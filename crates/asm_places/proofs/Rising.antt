-- The numbers of the lines of a routine's instructions rise.
use Rattle.std.proofs.Common.{◌+◌, ◌<◌, ℕ, List, [], ◌∷◌, arith}
use Rattle.text.specs.Cut.{lines_of}
use Rattle.asm_line.specs.declared.line.Body.{Body}
use Rattle.asm_line.specs.declared.line.Body.TheVariants.{Step}
use Rattle.asm_places.specs.declared.source.Sought.{Sought}
use Rattle.asm_places.specs.declared.source.Sought.TheVariants.{Driver as InDriver, Routine as InRoutine, End, Nothing}
use Rattle.asm_places.specs.Source.{body_on, counted, counted_step, instruction_lines, lines_from, past}
use Rattle.asm_places.specs.Standing.{Rises, RisesFrom}

step_rises : (body : Body) (last n : ℕ) (later : List ℕ) → last < n → RisesFrom last later
    → RisesFrom n later → RisesFrom last (counted_step body n later)
step_rises (Step instr used) last n later less whole rest = (less, rest)
step_rises body last n later less whole rest = whole

line_rises : (sought : Sought) (body : Body) (last n : ℕ) (later : List ℕ) → last < n
    → RisesFrom last later → RisesFrom n later → RisesFrom last (counted sought body n later)
line_rises End body last n later less whole rest = step_rises body last n later less whole rest
line_rises (InDriver before) body last n later less whole rest = whole
line_rises (InRoutine before) body last n later less whole rest = whole
line_rises Nothing body last n later less whole rest = whole

lines_rise : (routine : ℕ) (sought : Sought) (last n : ℕ) (raws : List (List ℕ)) → last < n
    → RisesFrom last (lines_from routine sought n raws)
lines_rise routine sought last n [] less = tt
lines_rise routine sought last n (raw ∷ raws) less =
    let body = body_on raw in
    let next = past routine sought body in
    line_rises sought body last n (lines_from routine next (n + 1) raws) less
    (lines_rise routine next last (n + 1) raws (omega (arith, less)))
    (lines_rise routine next n (n + 1) raws (omega arith))

pub rise : (driver routine : ℕ) (text : List ℕ) → Rises (instruction_lines driver routine text)
rise driver routine text = lines_rise routine (InDriver driver) 0 1 (lines_of text) (omega arith)
