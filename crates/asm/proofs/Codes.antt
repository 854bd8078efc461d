-- The instructions of a text, by what its lines have ahead of them.
use Rattle.std.specs.Prelude.{List, [], ◌∷◌, ◌++◌, map, option_to_list}
use Rattle.model.specs.declared.instr.Instr.{Instr}
use Rattle.model.specs.declared.set.Driver.{Driver}
use Rattle.model.specs.declared.set.Routine.{Routine}
use Rattle.asm_line.specs.declared.line.Body.{Body}
use Rattle.asm_line.specs.declared.line.Body.TheVariants.{Blank, OpenDriver, CloseDriver, AddQueue, Handle, HandleStartIo, HandleDpc, OpenRoutine, CloseRoutine, AddDevice, Step}
use Rattle.asm_line.specs.declared.line.Line.{Line}
use Rattle.asm.specs.Names.{Inventory}
use Rattle.asm.specs.Said.{instruction_on}
use Rattle.asm.proofs.Scopes.{queues_ahead, routines_ahead, sorts_ahead}

-- what the driver has whose lines begin here
abbrev pub inventory_ahead : List Line → Inventory
inventory_ahead ls =
    record { routines = routines_ahead ls; sorts = sorts_ahead ls; queues = queues_ahead ls }

-- the instructions on some of the lines of a routine
abbrev pub instructions_on : Inventory → List Line → List Line → List Instr
instructions_on has routine [] = []
instructions_on has routine (l ∷ ls) =
    option_to_list (instruction_on has routine l.body) ++ instructions_on has routine ls

-- a line and those after it, unless it ends the routine
abbrev pub unless_end : Line → Body → List Line → List Line
unless_end l CloseRoutine after = []
unless_end l Blank after = l ∷ after
unless_end l (OpenDriver name) after = l ∷ after
unless_end l CloseDriver after = l ∷ after
unless_end l (AddQueue name guard cancel) after = l ∷ after
unless_end l (Handle major routine) after = l ∷ after
unless_end l (HandleStartIo routine cancel) after = l ∷ after
unless_end l (HandleDpc routine) after = l ∷ after
unless_end l (OpenRoutine name sort) after = l ∷ after
unless_end l (AddDevice name driver stack lower) after = l ∷ after
unless_end l (Step instr used) after = l ∷ after

-- the lines from here to the end of the routine
abbrev pub routine_lines : List Line → List Line
routine_lines [] = []
routine_lines (l ∷ ls) = unless_end l l.body (routine_lines ls)

-- the instructions of the routine whose lines begin here
abbrev pub routine_code : Inventory → List Line → List Instr
routine_code has ls = instructions_on has (routine_lines ls) (routine_lines ls)

-- the codes of the routines from a line on: that of the routine which it opens, and those after it,
-- unless it ends the driver
abbrev pub codes_from : Body → List Instr → List (List Instr) → List (List Instr)
codes_from CloseDriver code after = []
codes_from (OpenRoutine name sort) code after = code ∷ after
codes_from Blank code after = after
codes_from (OpenDriver name) code after = after
codes_from (AddQueue name guard cancel) code after = after
codes_from (Handle major routine) code after = after
codes_from (HandleStartIo routine cancel) code after = after
codes_from (HandleDpc routine) code after = after
codes_from CloseRoutine code after = after
codes_from (AddDevice name driver stack lower) code after = after
codes_from (Step instr used) code after = after

-- the codes of the routines from here to the end of the driver, which has these things
abbrev pub routine_codes : Inventory → List Line → List (List Instr)
routine_codes has [] = []
routine_codes has (l ∷ ls) =
    codes_from l.body (routine_code has ls) (routine_codes has ls)

-- the codes of the routines of the driver whose lines begin here
abbrev pub driver_code : List Line → List (List Instr)
driver_code ls = routine_codes (inventory_ahead ls) ls

-- the codes of the drivers from a line on: that of the driver which it opens, and those after it
abbrev pub drivers_from : Body → List (List Instr) → List (List (List Instr))
    → List (List (List Instr))
drivers_from (OpenDriver name) codes after = codes ∷ after
drivers_from Blank codes after = after
drivers_from CloseDriver codes after = after
drivers_from (AddQueue name guard cancel) codes after = after
drivers_from (Handle major routine) codes after = after
drivers_from (HandleStartIo routine cancel) codes after = after
drivers_from (HandleDpc routine) codes after = after
drivers_from (OpenRoutine name sort) codes after = after
drivers_from CloseRoutine codes after = after
drivers_from (AddDevice name driver stack lower) codes after = after
drivers_from (Step instr used) codes after = after

-- the codes of the drivers that the lines open
abbrev pub driver_codes : List Line → List (List (List Instr))
driver_codes [] = []
driver_codes (l ∷ ls) = drivers_from l.body (driver_code ls) (driver_codes ls)

-- the codes of routines
abbrev pub codes_of : List Routine → List (List Instr)
codes_of routines = map (λ r. r.code) routines

-- the codes of the routines of drivers
abbrev pub all_codes : List Driver → List (List (List Instr))
all_codes drivers = map (λ d. codes_of d.routines) drivers
