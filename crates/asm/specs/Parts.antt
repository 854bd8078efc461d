-- What the lines of a driver text say, and the parts that they make: the lines of a driver, and
-- those of a routine.
use Rattle.std.specs.Prelude.{ℕ, Bool, true, false, List, [], ◌∷◌, Option, Some, None, if◌then◌else◌}
use Rattle.std.specs.List.{filter_map}
use Rattle.model.specs.declared.instr.Instr.{Instr}
use Rattle.model.specs.declared.set.Sort.{Sort}
use Rattle.model.specs.declared.status.Major.{Major}
use Rattle.model.specs.declared.status.Major.TheVariants.{Read, Write, Control}
use Rattle.asm_line.specs.declared.line.Body.{Body}
use Rattle.asm_line.specs.declared.line.Body.TheVariants.{Blank, OpenDriver, CloseDriver, AddQueue, Handle, HandleStartIo, HandleDpc, OpenRoutine, CloseRoutine, AddDevice, Step}
use Rattle.asm_line.specs.declared.line.Line.{Line}
use Rattle.asm.specs.declared.draft.Place.{Place}
use Rattle.asm.specs.declared.draft.Place.TheVariants.{Outside, InDriver, InRoutine}

-- the name of the driver, device, queue or routine that a line gives, and the routine's sort
abbrev pub driver_on : Body → Option (List ℕ)
driver_on (OpenDriver name) = Some name
driver_on _ = None

abbrev pub device_on : Body → Option (List ℕ)
device_on (AddDevice name driver stack lower) = Some name
device_on _ = None

abbrev pub queue_on : Body → Option (List ℕ)
queue_on (AddQueue name guard cancel) = Some name
queue_on _ = None

abbrev pub routine_on : Body → Option (List ℕ)
routine_on (OpenRoutine name sort) = Some name
routine_on _ = None

abbrev pub sort_on : Body → Option Sort
sort_on (OpenRoutine name sort) = Some sort
sort_on _ = None

-- the routine that a line names for a major function, as StartIo or as DPC routine, and to cancel
-- the packets that wait for StartIo
abbrev pub handler_on : Major → Body → Option (List ℕ)
handler_on Read (Handle Read routine) = Some routine
handler_on Write (Handle Write routine) = Some routine
handler_on Control (Handle Control routine) = Some routine
handler_on _ _ = None

abbrev pub startio_on : Body → Option (List ℕ)
startio_on (HandleStartIo routine cancel) = Some routine
startio_on _ = None

abbrev pub waiting_on : Body → Option (List ℕ)
waiting_on (HandleStartIo routine cancel) = cancel
waiting_on _ = None

abbrev pub dpc_on : Body → Option (List ℕ)
dpc_on (HandleDpc routine) = Some routine
dpc_on _ = None

-- the instruction on a line
abbrev pub step_on : Body → Option Instr
step_on (Step instr used) = instr
step_on _ = None

-- the label of an instruction
abbrev pub label_on : Option (List ℕ) → Body → Option (List ℕ)
label_on label (Step instr used) = label
label_on label _ = None

-- what lines say of one kind, in order
abbrev pub said : {A : Type 0} → (Body → Option A) → List Line → List A
said kind ls = filter_map (λ (l : Line). kind l.body) ls

abbrev pub labels_on : List Line → List (List ℕ)
labels_on ls = filter_map (λ (l : Line). label_on l.label l.body) ls

-- the first and the last line of a driver, and of a routine
abbrev pub opens_driver : Body → Bool
opens_driver (OpenDriver name) = true
opens_driver _ = false

abbrev pub closes_driver : Body → Bool
closes_driver CloseDriver = true
closes_driver _ = false

abbrev pub opens_routine : Body → Bool
opens_routine (OpenRoutine name sort) = true
opens_routine _ = false

abbrev pub closes_routine : Body → Bool
closes_routine CloseRoutine = true
closes_routine _ = false

-- the lines up to the first of this kind
abbrev pub up_to : (Body → Bool) → List Line → List Line
up_to test [] = []
up_to test (l ∷ ls) = if test l.body then [] else l ∷ up_to test ls

-- lines in order: those before a place, of which the last is given first, and those after it
abbrev pub around : List Line → List Line → List Line
around [] after = after
around (l ∷ before) after = around before (l ∷ after)

-- the lines of the driver around a place, and those of the routine
abbrev pub driver_around : List Line → List Line → List Line
driver_around before after = around (up_to opens_driver before) (up_to closes_driver after)

abbrev pub routine_around : List Line → List Line → List Line
routine_around before after = around (up_to opens_routine before) (up_to closes_routine after)

-- where the line after a line stands
abbrev pub place_next : Body → Place → Place
place_next (OpenDriver name) place = InDriver
place_next CloseDriver place = Outside
place_next (OpenRoutine name sort) place = InRoutine
place_next CloseRoutine place = InDriver
place_next Blank place = place
place_next (AddQueue name guard cancel) place = place
place_next (Handle major routine) place = place
place_next (HandleStartIo routine cancel) place = place
place_next (HandleDpc routine) place = place
place_next (AddDevice name driver stack lower) place = place
place_next (Step instr used) place = place

-- where the line after these lines stands, of which the last is given first
abbrev pub place_after : List Line → Place
place_after [] = Outside
place_after (l ∷ before) = place_next l.body (place_after before)
