-- What the type of a driver set keeps: counts within their limits, and numbers that name things.
-- It doesn't keep that a routine ends in a return, nor anything that the verifier decides.
use Rattle.std.specs.Prelude.{ℕ, suc, ⊤, ◌^◌, ◌<◌, ◌≤◌, List, [], ◌∷◌, length, All, IfSome, Option, None, Some, slice_get}
use Rattle.model.specs.declared.instr.Instr.{Instr}
use Rattle.model.specs.declared.instr.Instr.TheVariants.{Const, Move, Clear, Add, Subtract, JumpIfZero, JumpIfLess, Jump, Loop, End, Load, Store, LoadPaged, StorePaged, Get, Put, Mark, Acquire, Release, AcquireCancel, ReleaseCancel, Insert, Remove, Unlink, Arm, Disarm, IfCancel, Start, Take, Begin, Next, Dequeue, Pass, Call, Complete, IfPending, Ret}
use Rattle.model.specs.declared.instr.Return.{Return}
use Rattle.model.specs.declared.instr.Return.TheVariants.{WithStatus, Lower, Continue, Stop, Void}
use Rattle.model.specs.declared.limits.TheConstants.{CELLS, MAX_DEVICES, MAX_DRIVERS, MAX_INSTRUCTIONS, MAX_QUEUES, MAX_ROUTINES, MAX_STACK, MAX_TURNS, REGISTERS, SPIN_LOCKS}
use Rattle.model.specs.declared.set.Driver.{Driver}
use Rattle.model.specs.declared.set.Device.{Device}
use Rattle.model.specs.declared.set.Queue.{Queue}
use Rattle.model.specs.declared.set.Routine.{Routine}
use Rattle.model.specs.declared.set.Sort.{Sort}
use Rattle.model.specs.declared.set.Sort.TheVariants.{Dispatch, StartIo, Dpc, Propagate, Hold, Cancel}
use Rattle.model.specs.Set.{Set, label_of}

-- a label is a position of its routine
abbrev pub LabelFits : ℕ → Instr → Type 0
LabelFits positions i = IfSome (label_of i) (λ label. label < positions)

-- a register is one of the sixteen, a cell one of the sixteen of its sort, a spin lock one of the
-- eight of its device, a constant has 32 bits, and a loop turns 1 to 1,000 times
abbrev pub IsRegister : ℕ → Type 0
IsRegister r = r < REGISTERS

abbrev pub IsCell : ℕ → Type 0
IsCell c = c < CELLS

abbrev pub IsSpinLock : ℕ → Type 0
IsSpinLock lock = lock < SPIN_LOCKS

abbrev pub FormFits : Return → Type 0
FormFits (WithStatus status) = ⊤
FormFits (Lower r) = IsRegister r
FormFits Continue = ⊤
FormFits Stop = ⊤
FormFits Void = ⊤

-- all operands of an instruction are within their limits. A label, a queue and a `call`'s routine
-- have to name something beside
abbrev pub OperandFits : Instr → Type 0
OperandFits (Const r n) = IsRegister r × (n < 2 ^ 32)
OperandFits (Move r q) = IsRegister r × IsRegister q
OperandFits (Clear r) = IsRegister r
OperandFits (Add r q) = IsRegister r × IsRegister q
OperandFits (Subtract r q) = IsRegister r × IsRegister q
OperandFits (JumpIfZero r label) = IsRegister r
OperandFits (JumpIfLess r q label) = IsRegister r × IsRegister q
OperandFits (Jump label) = ⊤
OperandFits (Loop turns) = (1 ≤ turns) × (turns ≤ MAX_TURNS)
OperandFits End = ⊤
OperandFits (Load r c) = IsRegister r × IsCell c
OperandFits (Store c r) = IsCell c × IsRegister r
OperandFits (LoadPaged r c) = IsRegister r × IsCell c
OperandFits (StorePaged c r) = IsCell c × IsRegister r
OperandFits (Get r q field) = IsRegister r × IsRegister q
OperandFits (Put q r) = IsRegister q × IsRegister r
OperandFits (Mark r) = IsRegister r
OperandFits (Acquire lock) = IsSpinLock lock
OperandFits (Release lock) = IsSpinLock lock
OperandFits AcquireCancel = ⊤
OperandFits ReleaseCancel = ⊤
OperandFits (Insert r q) = IsRegister r
OperandFits (Remove r q label) = IsRegister r
OperandFits (Unlink r q) = IsRegister r
OperandFits (Arm r q) = IsRegister r
OperandFits (Disarm r label) = IsRegister r
OperandFits (IfCancel r label) = IsRegister r
OperandFits (Start r) = IsRegister r
OperandFits (Take r label) = IsRegister r
OperandFits (Begin r) = IsRegister r
OperandFits Next = ⊤
OperandFits (Dequeue r) = IsRegister r
OperandFits (Pass r) = IsRegister r
OperandFits (Call r f) = IsRegister r
OperandFits (Complete r status) = IsRegister r
OperandFits (IfPending r label) = IsRegister r
OperandFits (Ret form) = FormFits form

-- a routine has at most 1,024 instructions, its labels are among its positions, and its operands
-- fit
pub record RoutineFits (routine : Routine) : Type 0 where
  pub few : length routine.code ≤ MAX_INSTRUCTIONS
  pub labels : All (LabelFits (length routine.code)) routine.code
  pub operands : All OperandFits routine.code

-- a routine of a driver has a sort of these
abbrev pub HasSort : (Sort → Type 0) → Option Routine → Type 0
HasSort P None = ⊥
HasSort P (Some routine) = P routine.sort

-- a handler is the number of a dispatch routine of the driver
abbrev pub IsDispatch : Sort → Type 0
IsDispatch Dispatch = ⊤
IsDispatch StartIo = ⊥
IsDispatch Dpc = ⊥
IsDispatch Propagate = ⊥
IsDispatch Hold = ⊥
IsDispatch Cancel = ⊥

abbrev pub HandlerFits : List Routine → Option ℕ → Type 0
HandlerFits routines handler =
    IfSome handler (λ number. HasSort IsDispatch (slice_get routines number))

-- the StartIo routine is a StartIo routine of the driver
abbrev pub IsStartIo : Sort → Type 0
IsStartIo Dispatch = ⊥
IsStartIo StartIo = ⊤
IsStartIo Dpc = ⊥
IsStartIo Propagate = ⊥
IsStartIo Hold = ⊥
IsStartIo Cancel = ⊥

abbrev pub StartIoFits : List Routine → Option ℕ → Type 0
StartIoFits routines startio =
    IfSome startio (λ number. HasSort IsStartIo (slice_get routines number))

-- the DPC routine is a DPC routine of the driver
abbrev pub IsDpc : Sort → Type 0
IsDpc Dispatch = ⊥
IsDpc StartIo = ⊥
IsDpc Dpc = ⊤
IsDpc Propagate = ⊥
IsDpc Hold = ⊥
IsDpc Cancel = ⊥

abbrev pub DpcFits : List Routine → Option ℕ → Type 0
DpcFits routines dpc = IfSome dpc (λ number. HasSort IsDpc (slice_get routines number))

-- the routine of a `call` is a completion routine of the driver
abbrev pub IsCompletion : Sort → Type 0
IsCompletion Dispatch = ⊥
IsCompletion StartIo = ⊥
IsCompletion Dpc = ⊥
IsCompletion Propagate = ⊤
IsCompletion Hold = ⊤
IsCompletion Cancel = ⊥

-- the completion routine that an instruction names
abbrev pub completion_named : Instr → Option ℕ
completion_named (Const r n) = None
completion_named (Move r q) = None
completion_named (Clear r) = None
completion_named (Add r q) = None
completion_named (Subtract r q) = None
completion_named (JumpIfZero r label) = None
completion_named (JumpIfLess r q label) = None
completion_named (Jump label) = None
completion_named (Loop turns) = None
completion_named End = None
completion_named (Load r c) = None
completion_named (Store c r) = None
completion_named (LoadPaged r c) = None
completion_named (StorePaged c r) = None
completion_named (Get r q field) = None
completion_named (Put q r) = None
completion_named (Mark r) = None
completion_named (Acquire lock) = None
completion_named (Release lock) = None
completion_named AcquireCancel = None
completion_named ReleaseCancel = None
completion_named (Insert r q) = None
completion_named (Remove r q label) = None
completion_named (Unlink r q) = None
completion_named (Arm r q) = None
completion_named (Disarm r label) = None
completion_named (IfCancel r label) = None
completion_named (Start r) = None
completion_named (Take r label) = None
completion_named (Begin r) = None
completion_named Next = None
completion_named (Dequeue r) = None
completion_named (Pass r) = None
completion_named (Call r f) = f
completion_named (Complete r status) = None
completion_named (IfPending r label) = None
completion_named (Ret form) = None

abbrev pub CallFits : List Routine → Instr → Type 0
CallFits routines i =
    IfSome (completion_named i) (λ number. HasSort IsCompletion (slice_get routines number))

abbrev pub CallsFit : List Routine → Routine → Type 0
CallsFit routines routine = All (CallFits routines) routine.code

-- the queue that an instruction names
abbrev pub queue_named : Instr → Option ℕ
queue_named (Const r n) = None
queue_named (Move r q) = None
queue_named (Clear r) = None
queue_named (Add r q) = None
queue_named (Subtract r q) = None
queue_named (JumpIfZero r label) = None
queue_named (JumpIfLess r q label) = None
queue_named (Jump label) = None
queue_named (Loop turns) = None
queue_named End = None
queue_named (Load r c) = None
queue_named (Store c r) = None
queue_named (LoadPaged r c) = None
queue_named (StorePaged c r) = None
queue_named (Get r q field) = None
queue_named (Put q r) = None
queue_named (Mark r) = None
queue_named (Acquire lock) = None
queue_named (Release lock) = None
queue_named AcquireCancel = None
queue_named ReleaseCancel = None
queue_named (Insert r q) = Some q
queue_named (Remove r q label) = Some q
queue_named (Unlink r q) = Some q
queue_named (Arm r q) = Some q
queue_named (Disarm r label) = None
queue_named (IfCancel r label) = None
queue_named (Start r) = None
queue_named (Take r label) = None
queue_named (Begin r) = None
queue_named Next = None
queue_named (Dequeue r) = None
queue_named (Pass r) = None
queue_named (Call r f) = None
queue_named (Complete r status) = None
queue_named (IfPending r label) = None
queue_named (Ret form) = None

abbrev pub QueueFits : ℕ → Instr → Type 0
QueueFits queues i = IfSome (queue_named i) (λ q. q < queues)

abbrev pub QueuesFit : ℕ → Routine → Type 0
QueuesFit queues routine = All (QueueFits queues) routine.code

-- the cancel routine of a queue is a cancel routine of the driver
abbrev pub IsCancel : Sort → Type 0
IsCancel Dispatch = ⊥
IsCancel StartIo = ⊥
IsCancel Dpc = ⊥
IsCancel Propagate = ⊥
IsCancel Hold = ⊥
IsCancel Cancel = ⊤

-- the cancel routine of the device queue likewise, of a driver with a StartIo routine
abbrev pub WaitingFits : List Routine → Option ℕ → Option ℕ → Type 0
WaitingFits routines startio None = ⊤
WaitingFits routines None (Some cancel) = ⊥
WaitingFits routines (Some startio) (Some cancel) = HasSort IsCancel (slice_get routines cancel)

abbrev pub CancelFits : List Routine → Queue → Type 0
CancelFits routines queue =
    IfSome queue.cancel (λ number. HasSort IsCancel (slice_get routines number))

-- the guard of a queue is one of the eight spin locks
abbrev pub GuardFits : Queue → Type 0
GuardFits queue = IsSpinLock queue.guard

-- a driver has at most 32 routines, each of which fits, and its handlers, its StartIo and its DPC
-- routine, the routines of its calls and the cancel routines of its queues and of its device queue
-- are among them; it has at most 4 queues, and the queues that its instructions name are among them
pub record DriverFits (driver : Driver) : Type 0 where
  pub few : length driver.routines ≤ MAX_ROUTINES
  pub routines : All RoutineFits driver.routines
  pub read : HandlerFits driver.routines driver.read
  pub write : HandlerFits driver.routines driver.write
  pub control : HandlerFits driver.routines driver.control
  pub startio : StartIoFits driver.routines driver.startio
  pub waiting : WaitingFits driver.routines driver.startio driver.startio_cancel
  pub dpc : DpcFits driver.routines driver.dpc
  pub calls : All (CallsFit driver.routines) driver.routines
  pub few_queues : length driver.queues ≤ MAX_QUEUES
  pub guards : All GuardFits driver.queues
  pub cancels : All (CancelFits driver.routines) driver.queues
  pub queues : All (QueuesFit (length driver.queues)) driver.routines

-- a device is of a driver of the set, its stack size is 1 to 16, and it is over an earlier device,
-- if over any
pub record DeviceFits (drivers : ℕ) (number : ℕ) (device : Device) : Type 0 where
  pub driver : device.driver < drivers
  pub low : 1 ≤ device.stack
  pub high : device.stack ≤ MAX_STACK
  pub lower : IfSome device.lower (λ lower. lower < number)

-- the devices from a number on
abbrev pub DevicesFit : ℕ → ℕ → List Device → Type 0
DevicesFit drivers number [] = ⊤
DevicesFit drivers number (device ∷ devices) = DeviceFits drivers number device
    × DevicesFit drivers (suc number) devices

-- a set has at most 8 drivers and 16 devices, and all of them fit
pub record IsSound (set : Set) : Type 0 where
  pub few_drivers : length set.drivers ≤ MAX_DRIVERS
  pub few_devices : length set.devices ≤ MAX_DEVICES
  pub drivers : All DriverFits set.drivers
  pub devices : DevicesFit (length set.drivers) 0 set.devices
