-- The driver set of a text without a fault, by its lines: what stands on the lines of a driver or of
-- a routine, in order, with the number of each name.
use Rattle.std.specs.Prelude.{ℕ, ◌+◌, Bool, false, bytes_eq, List, [], ◌∷◌, ◌++◌, Option, Some, None, option_and_then, option_map, option_to_list, unwrap_or, if◌then◌else◌}
use Rattle.model.specs.Set.{Set}
use Rattle.model.specs.declared.instr.Instr.{Instr}
use Rattle.model.specs.declared.set.Device.{Device}
use Rattle.model.specs.declared.set.Driver.{Driver}
use Rattle.model.specs.declared.set.Queue.{Queue}
use Rattle.model.specs.declared.set.Routine.{Routine}
use Rattle.model.specs.declared.status.Major.TheVariants.{Read, Write, Control}
use Rattle.model.specs.InstructionForm.{Operand, ARegister, ACell, APagedCell, ASpinLock, AConstant, ATurns, AField, AStatus, AQueue, ALabel, ARoutine, AReturn, ValueOf, rebuilt}
use Rattle.asm_line.specs.declared.line.Body.{Body}
use Rattle.asm_line.specs.declared.line.Body.TheVariants.{OpenDriver, AddQueue, OpenRoutine, AddDevice, Step}
use Rattle.asm_line.specs.declared.line.Line.{Line}
use Rattle.asm.specs.declared.roles.Role.{Role}
use Rattle.asm.specs.declared.roles.Role.TheVariants.{Handler, Completion, StartIo, Dpc, Cancel}
use Rattle.asm.specs.Parts.{around, closes_driver, closes_routine, device_on, dpc_on, driver_on, handler_on, said, startio_on, up_to, waiting_on}
use Rattle.asm.specs.Names.{Inventory, inventory, number_in, number_of}

-- the instruction with this label, routine or queue in place of its own, if it has one
abbrev pub to_label : ℕ → (operand : Operand) → ValueOf operand → ValueOf operand
to_label label ARegister r = r
to_label label ACell c = c
to_label label APagedCell c = c
to_label label ASpinLock lock = lock
to_label label AConstant n = n
to_label label ATurns turns = turns
to_label label AField field = field
to_label label AStatus status = status
to_label label AQueue q = q
to_label label ALabel old = label
to_label label ARoutine f = f
to_label label AReturn form = form

abbrev pub with_label : Instr → ℕ → Instr
with_label i label = rebuilt (to_label label) i

abbrev pub to_routine : Option ℕ → (operand : Operand) → ValueOf operand → ValueOf operand
to_routine routine ARegister r = r
to_routine routine ACell c = c
to_routine routine APagedCell c = c
to_routine routine ASpinLock lock = lock
to_routine routine AConstant n = n
to_routine routine ATurns turns = turns
to_routine routine AField field = field
to_routine routine AStatus status = status
to_routine routine AQueue q = q
to_routine routine ALabel to = to
to_routine routine ARoutine old = routine
to_routine routine AReturn form = form

abbrev pub with_routine : Instr → Option ℕ → Instr
with_routine i routine = rebuilt (to_routine routine) i

abbrev pub to_queue : ℕ → (operand : Operand) → ValueOf operand → ValueOf operand
to_queue queue ARegister r = r
to_queue queue ACell c = c
to_queue queue APagedCell c = c
to_queue queue ASpinLock lock = lock
to_queue queue AConstant n = n
to_queue queue ATurns turns = turns
to_queue queue AField field = field
to_queue queue AStatus status = status
to_queue queue AQueue old = queue
to_queue queue ALabel to = to
to_queue queue ARoutine f = f
to_queue queue AReturn form = form

abbrev pub with_queue : Instr → ℕ → Instr
with_queue i queue = rebuilt (to_queue queue) i

-- the label is this name
abbrev pub is_labelled : Option (List ℕ) → List ℕ → Bool
is_labelled None name = false
is_labelled (Some label) name = bytes_eq name label

-- the position that a label names from a line on, where the next instruction has position p
abbrev pub place_at : List ℕ → ℕ → Option (List ℕ) → Body → (ℕ → Option ℕ) → Option ℕ
place_at name p label (Step instr used) later =
    if is_labelled label name then Some p else later (p + 1)
place_at name p label _ later = later p

-- the position that a label names: that of the instruction on its line
abbrev pub label_place : List ℕ → ℕ → List Line → Option ℕ
label_place name p [] = None
label_place name p (l ∷ ls) = place_at name p l.label l.body (λ next. label_place name next ls)

-- where an instruction jumps to: the position that its label names; 0 where it doesn't jump
abbrev pub jump_place : List Line → Option (List ℕ) → ℕ
jump_place routine label = unwrap_or (option_and_then (λ name. label_place name 0 routine) label) 0

-- the number of the queue that an instruction touches; 0 where it touches none
abbrev pub queue_number : Inventory → Option (List ℕ) → ℕ
queue_number has queue = unwrap_or (option_and_then (λ name. number_of has.queues name) queue) 0

-- the instruction on a line of a routine: where it jumps, to the position that its label names;
-- where it is a `call`, with the number of its routine, and where it touches a queue, with that of
-- the queue
abbrev pub instruction_on : Inventory → List Line → Body → Option Instr
instruction_on has routine (Step instr used) = option_map (λ i.
    with_queue (with_routine (with_label i (jump_place routine used.label))
    (number_in has Completion used.routine)) (queue_number has used.queue)) instr
instruction_on has routine _ = None

-- the routine that a line opens, of which these are the lines after it
abbrev pub opened_routine : Inventory → Body → List Line → Option Routine
opened_routine has (OpenRoutine name sort) ls =
    Some (record { sort = sort; code = said (instruction_on has ls) ls })
opened_routine has _ ls = None

-- the routines that lines open, up to the end of the driver
abbrev pub routines_on : Inventory → List Line → List Routine
routines_on has [] = []
routines_on has (l ∷ ls) = if closes_driver l.body then [] else
    option_to_list (opened_routine has l.body (up_to closes_routine ls)) ++ routines_on has ls

-- the queue on a line
abbrev pub added_queue : Inventory → Body → Option Queue
added_queue has (AddQueue name guard cancel) =
    option_map (λ lock. record { guard = lock; cancel = number_in has Cancel cancel }) guard
added_queue has _ = None

-- the number of the routine that is named first
abbrev pub first_in : Inventory → Role → List (List ℕ) → Option ℕ
first_in has role [] = None
first_in has role (name ∷ names) = number_in has role (Some name)

-- the driver whose lines begin here, which has these things; of them these are up to its end
abbrev pub driver_of : Inventory → List Line → List Line → Driver
driver_of has inside ls = record {
  routines = routines_on has ls;
  queues = said (added_queue has) inside;
  read = first_in has Handler (said (handler_on Read) inside);
  write = first_in has Handler (said (handler_on Write) inside);
  control = first_in has Handler (said (handler_on Control) inside);
  startio = first_in has StartIo (said startio_on inside);
  startio_cancel = first_in has Cancel (said waiting_on inside);
  dpc = first_in has Dpc (said dpc_on inside);
}

-- the driver that a line opens, of which these are the lines after it
abbrev pub opened_driver : Body → List Line → List Line → Option Driver
opened_driver (OpenDriver name) inside ls = Some (driver_of (inventory inside) inside ls)
opened_driver _ inside ls = None

-- the drivers that lines open
abbrev pub drivers_on : List Line → List Driver
drivers_on [] = []
drivers_on (l ∷ ls) =
    option_to_list (opened_driver l.body (up_to closes_driver ls) ls) ++ drivers_on ls

-- the device on a line: of a driver, and over a device, of the lines before it
abbrev pub added_device : List Line → Body → Option Device
added_device before (AddDevice name driver stack lower) = option_map (λ number. record {
  driver = number;
  stack = stack;
  lower = option_and_then (λ name. number_of (said device_on before) name) lower;
}) (number_of (said driver_on before) driver)
added_device before _ = None

-- the devices on lines, behind those lines, of which the last is given first
abbrev pub devices_on : List Line → List Line → List Device
devices_on before [] = []
devices_on before (l ∷ ls) =
    option_to_list (added_device (around before []) l.body) ++ devices_on (l ∷ before) ls

-- the set of these lines
abbrev pub set_of : List Line → Set
set_of ls = record { drivers = drivers_on ls; devices = devices_on [] ls }
