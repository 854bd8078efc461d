-- Where the instructions of a routine stand in a text: the numbers of their lines.
use Rattle.std.specs.Prelude.{ℕ, zero, suc, ◌+◌, Bool, true, false, List, [], ◌∷◌, Result, Ok, Err}
use Rattle.text.specs.Cut.{lines_of}
use Rattle.asm_line.specs.declared.line.Body.{Body}
use Rattle.asm_line.specs.declared.line.Body.TheVariants.{Blank, OpenDriver, CloseDriver, AddQueue, Handle, HandleStartIo, HandleDpc, OpenRoutine, CloseRoutine, AddDevice, Step}
use Rattle.asm_line.specs.declared.line.Line.{Line}
use Rattle.asm_line.specs.declared.line.LineFault.{LineFault}
use Rattle.asm_line.specs.Line.{read_line}
use Rattle.asm_places.specs.declared.source.Sought.{Sought}
use Rattle.asm_places.specs.declared.source.Sought.TheVariants.{Driver, Routine, End, Nothing}

-- what a line says, by the reader of lines; one of no form says nothing
abbrev pub body_in : Result Line LineFault → Body
body_in (Ok l) = l.body
body_in (Err fault) = Blank

abbrev pub body_on : List ℕ → Body
body_on raw = body_in (read_line raw)

-- after the line of a driver what is sought is the next one but so many, or in it the routine but
-- so many, and after the line of a routine the next one but so many, or its end
abbrev pub next_driver : ℕ → ℕ → Sought
next_driver routine zero = Routine routine
next_driver routine (suc before) = Driver before

abbrev pub next_routine : ℕ → Sought
next_routine zero = End
next_routine (suc before) = Routine before

-- what is sought after a line where a driver is sought, a routine, and the end of the routine
abbrev pub past_driver : ℕ → ℕ → Body → Sought
past_driver routine before Blank = Driver before
past_driver routine before (OpenDriver name) = next_driver routine before
past_driver routine before CloseDriver = Driver before
past_driver routine before (AddQueue name guard cancel) = Driver before
past_driver routine before (Handle major handler) = Driver before
past_driver routine before (HandleStartIo handler cancel) = Driver before
past_driver routine before (HandleDpc handler) = Driver before
past_driver routine before (OpenRoutine name sort) = Driver before
past_driver routine before CloseRoutine = Driver before
past_driver routine before (AddDevice name driver stack lower) = Driver before
past_driver routine before (Step instr used) = Driver before

abbrev pub past_routine : ℕ → Body → Sought
past_routine before Blank = Routine before
past_routine before (OpenDriver name) = Routine before
past_routine before CloseDriver = Nothing
past_routine before (AddQueue name guard cancel) = Routine before
past_routine before (Handle major handler) = Routine before
past_routine before (HandleStartIo handler cancel) = Routine before
past_routine before (HandleDpc handler) = Routine before
past_routine before (OpenRoutine name sort) = next_routine before
past_routine before CloseRoutine = Routine before
past_routine before (AddDevice name driver stack lower) = Routine before
past_routine before (Step instr used) = Routine before

abbrev pub past_step : Body → Sought
past_step Blank = End
past_step (OpenDriver name) = End
past_step CloseDriver = End
past_step (AddQueue name guard cancel) = End
past_step (Handle major handler) = End
past_step (HandleStartIo handler cancel) = End
past_step (HandleDpc handler) = End
past_step (OpenRoutine name sort) = End
past_step CloseRoutine = Nothing
past_step (AddDevice name driver stack lower) = End
past_step (Step instr used) = End

abbrev pub past : ℕ → Sought → Body → Sought
past routine (Driver driver) body = past_driver routine driver body
past routine (Routine before) body = past_routine before body
past routine End body = past_step body
past routine Nothing body = Nothing

-- the end of the routine is sought
abbrev pub seeks_end : Sought → Bool
seeks_end (Driver driver) = false
seeks_end (Routine before) = false
seeks_end End = true
seeks_end Nothing = false

-- the number of a line that is an instruction, before those of the lines after it, where the end of
-- the routine is sought
abbrev pub counted_step : Body → ℕ → List ℕ → List ℕ
counted_step (Step instr used) number later = number ∷ later
counted_step _ number later = later

abbrev pub counted : Sought → Body → ℕ → List ℕ → List ℕ
counted End body number later = counted_step body number later
counted (Driver driver) body number later = later
counted (Routine before) body number later = later
counted Nothing body number later = later

-- the numbers of the lines of a routine's instructions, from a line of this number on
abbrev pub lines_from : ℕ → Sought → ℕ → List (List ℕ) → List ℕ
lines_from routine sought number [] = []
lines_from routine sought number (raw ∷ raws) =
    counted sought (body_on raw) number
    (lines_from routine (past routine sought (body_on raw)) (number + 1) raws)

-- the numbers of the lines on which the instructions of a routine stand, in order, from 1: of the
-- driver of a number the routine of a number, both counted from 0 in the order of the text
abbrev pub instruction_lines : ℕ → ℕ → List ℕ → List ℕ
instruction_lines driver routine text = lines_from routine (Driver driver) 1 (lines_of text)
