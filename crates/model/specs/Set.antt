-- Driver sets: drivers and devices, and which routine serves what.
use Rattle.std.specs.Prelude.{ℕ, ◌+◌, Bool, false, List, [], ◌∷◌, Option, None, Some, nat_eq, is_some, unwrap_or, option_and_then, option_map, slice_get, if◌then◌else◌}
use Rattle.model.specs.declared.instr.Instr.{Instr}
use Rattle.model.specs.declared.instr.Instr.TheVariants.{Const, Move, Clear, Add, Subtract, JumpIfZero, JumpIfLess, Jump, Loop, End, Load, Store, LoadPaged, StorePaged, Get, Put, Mark, Acquire, Release, AcquireCancel, ReleaseCancel, Insert, Remove, Unlink, Arm, Disarm, IfCancel, Start, Take, Begin, Next, Dequeue, Pass, Call, Complete, IfPending, Ret}
use Rattle.model.specs.declared.instr.Return.TheVariants.{WithStatus}
use Rattle.model.specs.declared.set.Driver.{Driver}
use Rattle.model.specs.declared.set.Device.{Device}
use Rattle.model.specs.declared.set.Guard.{Guard}
use Rattle.model.specs.declared.set.Guard.TheVariants.{DeviceLock, CancelLock}
use Rattle.model.specs.declared.set.Queue.{Queue}
use Rattle.model.specs.declared.set.QueueName.{QueueName}
use Rattle.model.specs.declared.set.QueueName.TheVariants.{Declared, DeviceQueue}
use Rattle.model.specs.declared.set.Routine.{Routine}
use Rattle.model.specs.declared.set.Sort.{Sort}
use Rattle.model.specs.declared.set.Sort.TheVariants.{Dispatch}
use Rattle.model.specs.declared.status.Major.{Major}
use Rattle.model.specs.declared.status.Major.TheVariants.{Read, Write, Control}
use Rattle.model.specs.declared.status.Status.TheVariants.{InvalidDeviceRequest}

-- a driver set: its drivers and its devices, each numbered in order from 0
pub record Set : Type 0 where
  pub drivers : List Driver
  pub devices : List Device

-- the routine that a driver names for a major function
abbrev pub handler_of : Driver → Major → Option ℕ
handler_of d Read = d.read
handler_of d Write = d.write
handler_of d Control = d.control

-- the number of the routine that serves a major function where no driver names one
abbrev pub default_number : ℕ
default_number = 255

-- that routine completes the packet with STATUS_INVALID_DEVICE_REQUEST and returns that status
abbrev pub default_code : List Instr
default_code = Complete 0 InvalidDeviceRequest ∷ Ret (WithStatus InvalidDeviceRequest) ∷ []

abbrev pub default_routine : Routine
default_routine = record { sort = Dispatch; code = default_code }

-- the number of the routine that serves a major function for a driver
abbrev pub serving : Option Driver → Major → ℕ
serving driver major = unwrap_or (option_and_then (λ d. handler_of d major) driver) default_number

-- the routine of a number, of a driver
abbrev pub routine_of : Set → ℕ → ℕ → Option Routine
routine_of set driver number =
    if nat_eq number default_number
    then Some default_routine
    else option_and_then (λ d. slice_get d.routines number) (slice_get set.drivers driver)

-- the sort of the routine of a number; nothing looks at that of a routine which isn't there
abbrev pub sort_in : Option Routine → Sort
sort_in None = Dispatch
sort_in (Some routine) = routine.sort

abbrev pub sort_of : Set → ℕ → ℕ → Sort
sort_of set driver number = sort_in (routine_of set driver number)

-- the DPC routine of a device: that of its driver, if it has one
abbrev pub dpc_of : Set → ℕ → Option ℕ
dpc_of set device =
    option_and_then (λ driver. driver.dpc)
    (option_and_then (λ d. slice_get set.drivers d.driver) (slice_get set.devices device))

-- the StartIo routine of a device likewise
abbrev pub startio_of : Set → ℕ → Option ℕ
startio_of set device =
    option_and_then (λ driver. driver.startio)
    (option_and_then (λ d. slice_get set.drivers d.driver) (slice_get set.devices device))

-- the spin lock that guards a queue of a driver
abbrev pub guard_of : Set → ℕ → ℕ → Option ℕ
guard_of set driver q =
    option_map (λ queue. queue.guard)
    (option_and_then (λ d. slice_get d.queues q) (slice_get set.drivers driver))

-- the cancel routine of a queue of a driver, if it has one
abbrev pub cancel_routine_of : Set → ℕ → ℕ → Option ℕ
cancel_routine_of set driver q =
    option_and_then (λ queue. queue.cancel)
    (option_and_then (λ d. slice_get d.queues q) (slice_get set.drivers driver))

-- the lock that guards a list by its name, and the cancel routine of the packets in it
abbrev pub guard_named : Set → ℕ → QueueName → Option Guard
guard_named set driver (Declared q) = option_map (λ lock. DeviceLock lock) (guard_of set driver q)
guard_named set driver DeviceQueue = Some CancelLock

abbrev pub cancel_routine_named : Set → ℕ → QueueName → Option ℕ
cancel_routine_named set driver (Declared q) = cancel_routine_of set driver q
cancel_routine_named set driver DeviceQueue =
    option_and_then (λ d. d.startio_cancel) (slice_get set.drivers driver)

abbrev pub has_cancel : Set → ℕ → QueueName → Bool
has_cancel set driver name = is_some (cancel_routine_named set driver name)

-- the lists whose cancel routine a routine is: the device queue, and from the queue of a number on
abbrev pub is_named : Option ℕ → ℕ → Bool
is_named None number = false
is_named (Some cancel) number = nat_eq cancel number

abbrev pub cancelled_from : List Queue → ℕ → ℕ → List QueueName
cancelled_from [] q number = []
cancelled_from (queue ∷ queues) q number =
    if is_named queue.cancel number then Declared q ∷ cancelled_from queues (q + 1) number
    else cancelled_from queues (q + 1) number

abbrev pub cancelled_in : Option Driver → ℕ → List QueueName
cancelled_in None number = []
cancelled_in (Some d) number =
    if is_named d.startio_cancel number then DeviceQueue ∷ cancelled_from d.queues 0 number
    else cancelled_from d.queues 0 number

-- the one list whose cancel routine a routine of a driver is, if it is that of exactly one
abbrev pub only_one : List QueueName → Option QueueName
only_one [] = None
only_one (name ∷ []) = Some name
only_one (name ∷ other ∷ names) = None

abbrev pub cancels_for : Set → ℕ → ℕ → Option QueueName
cancels_for set driver number = only_one (cancelled_in (slice_get set.drivers driver) number)

-- the device under a device
abbrev pub lower_of : Set → ℕ → Option ℕ
lower_of set device = option_and_then (λ d. d.lower) (slice_get set.devices device)

-- a routine of the driver of a number, of a set, with its own number
pub record Member : Type 0 where
  pub set : Set
  pub driver : ℕ
  pub number : ℕ
  pub routine : Routine

abbrev pub member : Set → ℕ → ℕ → Routine → Member
member set driver number routine =
    record { set = set; driver = driver; number = number; routine = routine }

-- where an instruction leads: to the next position, to a label or the next position, to a label
-- alone, into a loop's body, which turns so often, back to its start or out of it, or out of the
-- routine
pub data Flow : Type 0 where
  Onward : Flow
  Branches : (label : ℕ) → Flow
  Jumps : (label : ℕ) → Flow
  Opens : (turns : ℕ) → Flow
  Closes : Flow
  Leaves : Flow

abbrev pub flow_of : Instr → Flow
flow_of (Const r n) = Onward
flow_of (Move r q) = Onward
flow_of (Clear r) = Onward
flow_of (Add r q) = Onward
flow_of (Subtract r q) = Onward
flow_of (JumpIfZero r label) = Branches label
flow_of (JumpIfLess r q label) = Branches label
flow_of (Jump label) = Jumps label
flow_of (Loop turns) = Opens turns
flow_of End = Closes
flow_of (Load r c) = Onward
flow_of (Store c r) = Onward
flow_of (LoadPaged r c) = Onward
flow_of (StorePaged c r) = Onward
flow_of (Get r q field) = Onward
flow_of (Put q r) = Onward
flow_of (Mark r) = Onward
flow_of (Acquire lock) = Onward
flow_of (Release lock) = Onward
flow_of AcquireCancel = Onward
flow_of ReleaseCancel = Onward
flow_of (Insert r q) = Onward
flow_of (Remove r q label) = Branches label
flow_of (Unlink r q) = Onward
flow_of (Arm r q) = Onward
flow_of (Disarm r label) = Branches label
flow_of (IfCancel r label) = Branches label
flow_of (Start r) = Onward
flow_of (Take r label) = Branches label
flow_of (Begin r) = Onward
flow_of Next = Onward
flow_of (Dequeue r) = Onward
flow_of (Pass r) = Onward
flow_of (Call r f) = Onward
flow_of (Complete r status) = Onward
flow_of (IfPending r label) = Branches label
flow_of (Ret form) = Leaves

-- the label of a jump
abbrev pub label_in : Flow → Option ℕ
label_in Onward = None
label_in (Branches label) = Some label
label_in (Jumps label) = Some label
label_in (Opens turns) = None
label_in Closes = None
label_in Leaves = None

abbrev pub label_of : Instr → Option ℕ
label_of i = label_in (flow_of i)

-- the instruction at a position of a routine
abbrev pub instruction_at : Set → ℕ → ℕ → ℕ → Option Instr
instruction_at set driver number position =
    option_and_then (λ r. slice_get r.code position) (routine_of set driver number)
