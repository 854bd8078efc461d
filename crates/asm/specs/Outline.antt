-- What the lines of a driver text say so far, and what the next line adds to it, as the program
-- keeps it: a step of the proof, and no definition to believe.
use Rattle.std.specs.Prelude.{ℕ, ⊤, ◌≡◌, ◌<◌, ◌≤◌, All, map, slice_get, unwrap_or, ◌+◌, Bool, true, false, not, nat_lt, List, [], ◌∷◌, ◌++◌, length, Option, Some, None, is_some, option_map, option_and_then, option_to_list, if◌then◌else◌}
use Rattle.model.specs.declared.instr.Instr.{Instr}
use Rattle.model.specs.declared.limits.TheConstants.{MAX_DEVICES, MAX_DRIVERS, MAX_INSTRUCTIONS, MAX_QUEUES, MAX_ROUTINES}
use Rattle.model.specs.declared.set.Device.{Device}
use Rattle.model.specs.declared.set.Driver.{Driver}
use Rattle.model.specs.declared.set.Queue.{Queue}
use Rattle.model.specs.declared.set.Routine.{Routine}
use Rattle.model.specs.declared.set.Sort.{Sort}
use Rattle.model.specs.declared.set.Sort.TheVariants.{Dispatch}
use Rattle.model.specs.Sound.{DriverFits, DevicesFit, IsSpinLock, LabelFits, OperandFits, queue_named}
use Rattle.model.specs.declared.status.Major.{Major}
use Rattle.model.specs.declared.status.Major.TheVariants.{Read, Write, Control}
use Rattle.asm.specs.declared.draft.Place.{Place}
use Rattle.asm.specs.declared.draft.Place.TheVariants.{Outside, InDriver, InRoutine}
use Rattle.asm.specs.declared.draft.ClosedRoutine.{ClosedRoutine}
use Rattle.asm.specs.declared.draft.Linked.{Linked}
use Rattle.asm.specs.declared.draft.QueueLine.{QueueLine}
use Rattle.asm.specs.declared.draft.StartIoLine.{StartIoLine}
use Rattle.asm.specs.declared.draft.Step.{Step as StepOf}
use Rattle.asm.specs.declared.names.Use.{Use}
use Rattle.asm.specs.declared.roles.Role.{Role}
use Rattle.asm.specs.declared.roles.Role.TheVariants.{Handler, Completion, StartIo as StartIoRole, Dpc as DpcRole, Cancel as CancelRole}
use Rattle.asm.specs.declared.fault.AsmKind.{AsmKind}
use Rattle.asm.specs.declared.fault.AsmKind.TheVariants.{UnknownWord, DuplicateName, OutOfRange, OverLimit}
use Rattle.asm_line.specs.declared.line.Body.{Body}
use Rattle.asm_line.specs.declared.line.Body.TheVariants.{Blank, OpenDriver, CloseDriver, AddQueue, Handle, HandleStartIo, HandleDpc, OpenRoutine, CloseRoutine, AddDevice, Step}
use Rattle.asm_line.specs.declared.line.Line.{Line}
use Rattle.asm_line.specs.declared.line.UsedNames.{UsedNames}
pub use Rattle.asm.specs.Uses.{earliest, is_known_label, missed, number_used, use_place, used_at}
pub use Rattle.asm.specs.Names.{is_among, is_known, number_of, serves, number_for, routine_named, Inventory}
pub use Rattle.asm.specs.Faults.{stands, is_stack_size, is_out_of_range}
pub use Rattle.asm.specs.Said.{with_label, with_queue, with_routine}

-- What was read: the drivers that are closed and the devices, with the names of all of them; of the
-- open driver its routines that are closed, the names and sorts of all of its routines, the uses of
-- routines by its calls, its queues with the uses of their cancel routines, their names, the uses
-- of queues by its instructions, what serves each major function, its `startio` line and its DPC
-- routine;
-- of the open routine its sort, its labels, the position that each of them names, and its
-- instructions; and the first line that uses a name which nothing has, of those that are weighed
-- already. What is open is empty where nothing is open.
pub record Outline : Type 0 where
  pub place : Place
  pub driver_names : List (List ℕ)
  pub drivers : List Driver
  pub device_names : List (List ℕ)
  pub devices : List Device
  pub routine_names : List (List ℕ)
  pub sorts : List Sort
  pub routines : List ClosedRoutine
  pub calls : List Use
  pub queue_names : List (List ℕ)
  pub queues : List QueueLine
  pub queue_uses : List Use
  pub read : Option Use
  pub write : Option Use
  pub control : Option Use
  pub startio : Option StartIoLine
  pub dpc : Option Use
  pub sort : Sort
  pub labels : List (List ℕ)
  pub positions : List ℕ
  pub steps : List StepOf
  pub unknown : Option ℕ

-- before the first line
abbrev pub nothing_read : Outline
nothing_read = record {
  place = Outside;
  driver_names = [];
  drivers = [];
  device_names = [];
  devices = [];
  routine_names = [];
  sorts = [];
  routines = [];
  calls = [];
  queue_names = [];
  queues = [];
  queue_uses = [];
  read = None;
  write = None;
  control = None;
  startio = None;
  dpc = None;
  sort = Dispatch;
  labels = [];
  positions = [];
  steps = [];
  unknown = None;
}

-- the routine that serves a major function in the open driver, as its line names it
abbrev pub handler_of : Outline → Major → Option Use
handler_of o Read = o.read
handler_of o Write = o.write
handler_of o Control = o.control

-- the line gives a name, a table entry or a label again
abbrev pub draft_is_again : Outline → Option (List ℕ) → Body → Bool
draft_is_again o label (OpenDriver name) = is_among o.driver_names name
draft_is_again o label (AddQueue name guard cancel) = is_among o.queue_names name
draft_is_again o label (Handle major routine) = is_some (handler_of o major)
draft_is_again o label (HandleStartIo routine cancel) = is_some o.startio
draft_is_again o label (HandleDpc routine) = is_some o.dpc
draft_is_again o label (OpenRoutine name sort) = is_among o.routine_names name
draft_is_again o label (AddDevice name driver stack lower) = is_among o.device_names name
draft_is_again o label (Step instr used) = is_known_label o.labels label
draft_is_again o label Blank = false
draft_is_again o label CloseDriver = false
draft_is_again o label CloseRoutine = false

-- there is room for what the line adds
abbrev pub draft_has_room : Outline → Body → Bool
draft_has_room o (OpenDriver name) = nat_lt (length o.driver_names) MAX_DRIVERS
draft_has_room o (AddDevice name driver stack lower) = nat_lt (length o.device_names) MAX_DEVICES
draft_has_room o (AddQueue name guard cancel) = nat_lt (length o.queue_names) MAX_QUEUES
draft_has_room o (OpenRoutine name sort) = nat_lt (length o.routine_names) MAX_ROUTINES
draft_has_room o (Step instr used) = nat_lt (length o.steps) MAX_INSTRUCTIONS
draft_has_room o Blank = true
draft_has_room o CloseDriver = true
draft_has_room o (Handle major routine) = true
draft_has_room o (HandleStartIo routine cancel) = true
draft_has_room o (HandleDpc routine) = true
draft_has_room o CloseRoutine = true

-- the line's fault in its context: the least kind of those that it has
abbrev pub draft_misfit : Outline → Line → Option AsmKind
draft_misfit o l =
    if not (stands o.place l.body) then Some UnknownWord else
    (if draft_is_again o l.label l.body then Some DuplicateName else
    (if is_out_of_range l.body then Some OutOfRange else
    (if not (draft_has_room o l.body) then Some OverLimit else None)))

-- a line without a fault in its context
pub record IsFitting (o : Outline) (l : Line) : Type 0 where
  pub standing : stands o.place l.body ≡ true
  pub fresh : draft_is_again o l.label l.body ≡ false
  pub in_range : is_out_of_range l.body ≡ false
  pub room : draft_has_room o l.body ≡ true

-- `driver NAME`
abbrev pub driver_opened : Outline → List ℕ → Outline
driver_opened o name = record o { place = InDriver; driver_names = o.driver_names ++ name ∷ [] }

-- there is a routine with this name, and its sort is for the role
abbrev pub has_routine : List (List ℕ) → List Sort → Role → List ℕ → Bool
has_routine names sorts role name = is_some (routine_named names sorts role name)

-- the number of the routine that is named for a role
abbrev pub entry_in : List (List ℕ) → List Sort → Role → Option Use → Option ℕ
entry_in names sorts role u = option_and_then (λ u. routine_named names sorts role u.name) u

-- the number of the routine that the call of a place sets
abbrev pub routine_called : Outline → Option ℕ → Option ℕ
routine_called o call =
    option_and_then (λ u. routine_named o.routine_names o.sorts Completion u.name)
    (option_and_then (λ place. slice_get o.calls place) call)

-- the number of the queue that the instruction of a place touches, if there is one
abbrev pub queue_used : Outline → Option ℕ → Option ℕ
queue_used o place =
    option_and_then (λ u. number_of o.queue_names u.name)
    (option_and_then (λ place. slice_get o.queue_uses place) place)

-- 0 where nothing has the name, or where it touches none
abbrev pub queue_at : Outline → Option ℕ → ℕ
queue_at o place = unwrap_or (queue_used o place) 0

-- an instruction of the open driver; if it is a call, with the number of its routine, and if it
-- touches a queue, with the number of that
abbrev pub called : Outline → Linked → Instr
called o step =
    with_queue (with_routine step.instr (routine_called o step.call)) (queue_at o step.queue)

-- a routine of the open driver
abbrev pub finished : Outline → ClosedRoutine → Routine
finished o routine = record { sort = routine.sort; code = map (called o) routine.code }

-- a queue of the open driver, with the number of its cancel routine
abbrev pub finished_queue : Outline → QueueLine → Queue
finished_queue o q =
    record { guard = q.guard; cancel = entry_in o.routine_names o.sorts CancelRole q.cancel }

-- the StartIo routine, as its line names it, and the cancel routine of the packets that wait for it
abbrev pub startio_named : Option StartIoLine → Option Use
startio_named None = None
startio_named (Some l) = Some l.routine

abbrev pub waiting_named : Option StartIoLine → Option Use
waiting_named None = None
waiting_named (Some l) = l.cancel

-- the open driver
abbrev pub finished_driver : Outline → Driver
finished_driver o = record {
  routines = map (finished o) o.routines;
  queues = map (finished_queue o) o.queues;
  read = entry_in o.routine_names o.sorts Handler o.read;
  write = entry_in o.routine_names o.sorts Handler o.write;
  control = entry_in o.routine_names o.sorts Handler o.control;
  startio = entry_in o.routine_names o.sorts StartIoRole (startio_named o.startio);
  startio_cancel = entry_in o.routine_names o.sorts CancelRole (waiting_named o.startio);
  dpc = entry_in o.routine_names o.sorts DpcRole o.dpc;
}

-- the line of a use of a name, if there is no routine with that name, of a sort for the role
abbrev pub missed_use : List (List ℕ) → List Sort → Role → Use → Option ℕ
missed_use names sorts role u = if has_routine names sorts role u.name then None else Some u.line

-- such a line of a table entry
abbrev pub missed_entry : List (List ℕ) → List Sort → Role → Option Use → Option ℕ
missed_entry names sorts role None = None
missed_entry names sorts role (Some u) = missed_use names sorts role u

-- the `startio` line, if its StartIo routine is missed, or the cancel routine that it names
abbrev pub missed_startio : List (List ℕ) → List Sort → Option StartIoLine → Option ℕ
missed_startio names sorts l =
    earliest (missed_entry names sorts StartIoRole (startio_named l))
    (missed_entry names sorts CancelRole (waiting_named l))

-- the first such line of the entries of the open driver
abbrev pub missed_handler : List (List ℕ) → List Sort → Outline → Option ℕ
missed_handler names sorts o =
    earliest (missed_entry names sorts Handler o.read)
    (earliest (missed_entry names sorts Handler o.write)
    (earliest (missed_entry names sorts Handler o.control)
    (earliest (missed_startio names sorts o.startio)
    (missed_entry names sorts DpcRole o.dpc))))

-- the first such line of these calls, or the one found already if that is earlier
abbrev pub missed_calls : List (List ℕ) → List Sort → Option ℕ → List Use → Option ℕ
missed_calls names sorts found [] = found
missed_calls names sorts found (u ∷ us) =
    missed_calls names sorts (earliest found (missed_use names sorts Completion u)) us

-- the first such line of these queues, or the one found already if that is earlier
abbrev pub missed_cancels : List (List ℕ) → List Sort → Option ℕ → List QueueLine → Option ℕ
missed_cancels names sorts found [] = found
missed_cancels names sorts found (q ∷ qs) =
    missed_cancels names sorts (earliest found (missed_entry names sorts CancelRole q.cancel)) qs

-- the first such line of the queues and entries of the open driver
abbrev pub missed_server : List (List ℕ) → List Sort → Outline → Option ℕ
missed_server names sorts o =
    earliest (missed_cancels names sorts None o.queues) (missed_handler names sorts o)

-- the first line of the open driver that uses a routine which it doesn't have, or one of a sort
-- that isn't for its role
abbrev pub missed_routine : Outline → Option ℕ
missed_routine o =
    earliest (missed_calls o.routine_names o.sorts None o.calls)
    (missed_server o.routine_names o.sorts o)

-- the first line of these uses of a name that isn't among these, or the one found already if that
-- is earlier
abbrev pub missed_uses : List (List ℕ) → Option ℕ → List Use → Option ℕ
missed_uses names found [] = found
missed_uses names found (u ∷ us) = missed_uses names (earliest found (missed names (Some u))) us

-- the first line of the open driver that uses a queue which it doesn't have
abbrev pub missed_queue : Outline → Option ℕ
missed_queue o = missed_uses o.queue_names None o.queue_uses

-- the first line of the open driver that uses a queue or routine which it doesn't have
abbrev pub missed_in_driver : Outline → Option ℕ
missed_in_driver o = earliest (missed_queue o) (missed_routine o)

-- `endd`: now the driver's routines and queues are known
abbrev pub driver_closed : Outline → Outline
driver_closed o = record o {
  place = Outside;
  drivers = o.drivers ++ finished_driver o ∷ [];
  routine_names = [];
  sorts = [];
  routines = [];
  calls = [];
  queue_names = [];
  queues = [];
  queue_uses = [];
  read = None;
  write = None;
  control = None;
  startio = None;
  dpc = None;
  unknown = earliest o.unknown (missed_in_driver o);
}

-- `queue NAME LOCK` and `queue NAME LOCK ROUTINE`
abbrev pub queue_added : Outline → List ℕ → ℕ → Option Use → Outline
queue_added o name guard cancel = record o {
  queue_names = o.queue_names ++ name ∷ [];
  queues = o.queues ++ record { guard = guard; cancel = cancel } ∷ [];
}

-- `dispatch MAJOR ROUTINE`
abbrev pub handled : Outline → Use → Major → Outline
handled o u Read = record o { read = Some u }
handled o u Write = record o { write = Some u }
handled o u Control = record o { control = Some u }

-- `startio ROUTINE` and `startio ROUTINE CANCEL`
abbrev pub startio_handled : Outline → Use → Option Use → Outline
startio_handled o u cancel =
    record o { startio = Some (record { routine = u; cancel = cancel }) }

-- `dpc ROUTINE`
abbrev pub dpc_handled : Outline → Use → Outline
dpc_handled o u = record o { dpc = Some u }

-- `routine NAME SORT`
abbrev pub routine_opened : Outline → List ℕ → Sort → Outline
routine_opened o name sort = record o {
  place = InRoutine;
  routine_names = o.routine_names ++ name ∷ [];
  sorts = o.sorts ++ sort ∷ [];
  sort = sort;
}

-- the position that a label names
abbrev pub position_of : List (List ℕ) → List ℕ → List ℕ → Option ℕ
position_of labels positions name =
    option_and_then (λ k. slice_get positions k) (number_of labels name)

-- where an instruction jumps to: 0 where nothing has the name, or where it doesn't jump
abbrev pub target_position : List (List ℕ) → List ℕ → Option Use → ℕ
target_position labels positions None = 0
target_position labels positions (Some u) = unwrap_or (position_of labels positions u.name) 0

-- an instruction with the position of its label
abbrev pub label_resolved : List (List ℕ) → List ℕ → StepOf → Linked
label_resolved labels positions s = record {
  instr = with_label s.instr (target_position labels positions s.label);
  call = s.call;
  queue = s.queue;
}

-- the earliest line of these steps that uses a label which isn't there, or the one found already if
-- that is earlier
abbrev pub missed_from : List (List ℕ) → Option ℕ → List StepOf → Option ℕ
missed_from labels found [] = found
missed_from labels found (s ∷ ss) = missed_from labels (earliest found (missed labels s.label)) ss

-- `endr`: now the routine's labels are known
abbrev pub routine_closed : Outline → Outline
routine_closed o = record o {
  place = InDriver;
  routines = o.routines ++ record {
    sort = o.sort;
    code = map (label_resolved o.labels o.positions) o.steps;
  } ∷ [];
  labels = [];
  positions = [];
  steps = [];
  unknown = missed_from o.labels o.unknown o.steps;
}

-- a device of the driver with this name, if there is one before it
abbrev pub device_of : Outline → List ℕ → ℕ → Option Use → Option Device
device_of o driver stack lower =
    option_map (λ number. record {
      driver = number;
      stack = stack;
      lower = number_used o.device_names lower;
    })
    (number_of o.driver_names driver)

-- `device NAME DRIVER STACK` and `device NAME DRIVER STACK LOWER`
abbrev pub device_added : Outline → List ℕ → Use → ℕ → Option Use → Outline
device_added o name driver stack lower = record o {
  device_names = o.device_names ++ name ∷ [];
  devices = o.devices ++ option_to_list (device_of o driver.name stack lower);
  unknown = earliest o.unknown
      (earliest (missed o.driver_names (Some driver)) (missed o.device_names lower));
}

-- a label, if there is one: it names the position of the next instruction
abbrev pub label_added : Outline → Option (List ℕ) → Outline
label_added o label = record o {
  labels = o.labels ++ option_to_list label;
  positions = o.positions ++ option_to_list (option_map (λ label. length o.steps) label);
}

-- an instruction, and the names that it uses
abbrev pub step_added : Outline → ℕ → Instr → UsedNames → Outline
step_added o n instr used = record o {
  calls = o.calls ++ option_to_list (used_at n used.routine);
  queue_uses = o.queue_uses ++ option_to_list (used_at n used.queue);
  steps = o.steps
      ++ (record {
        instr = instr;
        label = used_at n used.label;
        call = use_place (length o.calls) used.routine;
        queue = use_place (length o.queue_uses) used.queue;
      }) ∷ [];
}

-- an instruction with its label, and the names that it uses
abbrev pub stepped : Outline → ℕ → Option (List ℕ) → Instr → UsedNames → Outline
stepped o n label instr used = step_added (label_added o label) n instr used

-- what is read with a line more, whose number is n
abbrev pub noted : Outline → ℕ → Option (List ℕ) → Body → Outline
noted o n label Blank = o
noted o n label (OpenDriver name) = driver_opened o name
noted o n label CloseDriver = driver_closed o
noted o n label (AddQueue name (Some guard) cancel) =
    queue_added o name guard (used_at n cancel)
noted o n label (AddQueue name None cancel) = o
noted o n label (Handle major routine) = handled o (record { line = n; name = routine }) major
noted o n label (HandleStartIo routine cancel) =
    startio_handled o (record { line = n; name = routine }) (used_at n cancel)
noted o n label (HandleDpc routine) = dpc_handled o (record { line = n; name = routine })
noted o n label (OpenRoutine name sort) = routine_opened o name sort
noted o n label CloseRoutine = routine_closed o
noted o n label (AddDevice name driver stack lower) =
    device_added o name (record { line = n; name = driver }) stack (used_at n lower)
noted o n label (Step (Some instr) used) = stepped o n label instr used
noted o n label (Step None used) = o

-- how many drivers are open in a place
abbrev pub open_drivers : Place → ℕ
open_drivers Outside = 0
open_drivers InDriver = 1
open_drivers InRoutine = 1

-- the sort of the routine that is open in a place
abbrev pub open_sort : Place → Sort → List Sort
open_sort Outside sort = []
open_sort InDriver sort = []
open_sort InRoutine sort = sort ∷ []

-- where an instruction names a queue, it has the place of a use, of which there are so many
abbrev pub IsUse : ℕ → Option ℕ → Option ℕ → Type 0
IsUse count None place = ⊤
IsUse count (Some q) None = ⊥
IsUse count (Some q) (Some place) = place < count

abbrev pub QueueUsed : ℕ → Instr → Option ℕ → Type 0
QueueUsed count i place = IsUse count (queue_named i) place

-- a closed routine is within the limits, its labels are among its positions, its operands fit, and
-- the queues that it names are among so many uses
pub record ClosedFits (uses : ℕ) (routine : ClosedRoutine) : Type 0 where
  pub few : length routine.code ≤ MAX_INSTRUCTIONS
  pub labels : All (λ (step : Linked). LabelFits (length routine.code) step.instr) routine.code
  pub operands : All (λ (step : Linked). OperandFits step.instr) routine.code
  pub queues : All (λ (step : Linked). QueueUsed uses step.instr step.queue) routine.code

-- each device has the number of its name, and all of them fit
pub record DevicesKnown (drivers names : List (List ℕ)) (devices : List Device) : Type 0 where
  pub count : length devices ≡ length names
  pub fit : DevicesFit (length drivers) 0 devices

-- the drivers, of which so many are open, are within the limits of a set, and fit where no name is
-- unknown
pub record DriversOrderly (opened : ℕ) (names : List (List ℕ)) (drivers : List Driver)
    (unknown : Option ℕ) : Type 0 where
  pub few : length names ≤ MAX_DRIVERS
  pub count : length drivers + opened ≡ length names
  pub fit : unknown ≡ None → All DriverFits drivers

-- so are the devices, which have the numbers of their drivers
pub record DevicesOrderly (drivers names : List (List ℕ)) (devices : List Device)
    (unknown : Option ℕ) : Type 0 where
  pub few : length names ≤ MAX_DEVICES
  pub known : unknown ≡ None → DevicesKnown drivers names devices

-- so are the routines of the open driver, where the routine of this sort is open, if one is
pub record RoutinesOrderly (opened : List Sort) (names : List (List ℕ)) (sorts : List Sort)
    (routines : List ClosedRoutine) (uses : ℕ) : Type 0 where
  pub few : length names ≤ MAX_ROUTINES
  pub count : length routines + length opened ≡ length names
  pub sorts_known : map (λ (routine : ClosedRoutine). routine.sort) routines ++ opened ≡ sorts
  pub fit : All (ClosedFits uses) routines

-- so are its queues
pub record QueuesOrderly (names : List (List ℕ)) (queues : List QueueLine) : Type 0 where
  pub few : length names ≤ MAX_QUEUES
  pub count : length queues ≡ length names
  pub guards : All (λ (queue : QueueLine). IsSpinLock queue.guard) queues

-- so are the instructions of the open routine, and there are none where none is open
pub record StepsOrderly (opened : List Sort) (positions : List ℕ) (steps : List StepOf) (uses : ℕ)
    : Type 0 where
  pub few : length steps ≤ MAX_INSTRUCTIONS
  pub idle : opened ≡ [] → steps ≡ []
  pub positions_fit : All (λ position. position < length steps) positions
  pub operands_fit : All (λ (step : StepOf). OperandFits step.instr) steps
  pub queues_used : All (λ (step : StepOf). QueueUsed uses step.instr step.queue) steps

-- what was read up to a place is within the limits of a set, and its numbers name things, those of
-- its drivers and devices where no name is unknown
pub record OrderlyAt (place : Place) (o : Outline) : Type 0 where
  pub drivers : DriversOrderly (open_drivers place) o.driver_names o.drivers o.unknown
  pub devices : DevicesOrderly o.driver_names o.device_names o.devices o.unknown
  pub routines :
      RoutinesOrderly (open_sort place o.sort) o.routine_names o.sorts o.routines
      (length o.queue_uses)
  pub queues : QueuesOrderly o.queue_names o.queues
  pub steps : StepsOrderly (open_sort place o.sort) o.positions o.steps (length o.queue_uses)

abbrev pub IsOrderly : Outline → Type 0
IsOrderly o = OrderlyAt o.place o
