-- What an event on slots looks for, and finds: the instruction, its operands, the packet of a key,
-- a lock, a queue with room, lists without the key that is put into one, room for another frame.
-- Who carries an event out tests none of it.
use Rattle.std.specs.Prelude.{ℕ, ◌≡◌, ◌≢◌, ◌<◌, ◌||◌, ⊤, Bool, true, false, List, length, Some, is_some, slice_get}
use Rattle.std.specs.List.{list_any}
use Rattle.model.specs.declared.event.Event.{Event}
use Rattle.model.specs.declared.event.Event.TheVariants.{Issue, Cancel as CancelEvent, Interrupt, Dpc as DpcEvent, StartIo as StartIoEvent, Step}
use Rattle.model.specs.declared.event.Lock.{Lock}
use Rattle.model.specs.declared.event.Lock.TheVariants.{SystemCancel}
use Rattle.model.specs.declared.instr.Instr.{Instr}
use Rattle.model.specs.declared.instr.Instr.TheVariants.{Const, Move, Clear, Add, Subtract, JumpIfZero, JumpIfLess, Jump, Loop, End, Load, Store, LoadPaged, StorePaged, Get, Put, Mark, Acquire, Release, AcquireCancel, ReleaseCancel, Insert, Remove, Unlink, Arm, Disarm, IfCancel, Start, Take, Begin, Next, Dequeue, Pass, Call, Complete, IfPending, Ret}
use Rattle.model.specs.declared.instr.Return.{Return}
use Rattle.model.specs.declared.instr.Return.TheVariants.{WithStatus, Lower, Continue, Stop, Void}
use Rattle.model.specs.declared.limits.TheConstants.{MAX_ENTRIES, MAX_FRAMES, MAX_INSTRUCTIONS, MAX_LOOPS, MAX_QUEUES}
use Rattle.model.specs.declared.set.QueueName.TheVariants.{DeviceQueue}
use Rattle.model.specs.declared.status.Status.{Status}
use Rattle.model.specs.declared.world.Activation.{Activation}
use Rattle.model.specs.declared.world.CancelStep.{CancelStep}
use Rattle.model.specs.declared.world.CancelStep.TheVariants.{Acquire as AcquireStep, SetFlag, Exchange}
use Rattle.model.specs.declared.world.Packet.{Packet}
use Rattle.model.specs.declared.world.Value.TheVariants.{Num, Ref, Status as StatusValue}
use Rattle.model.specs.Effect.{spin_lock}
use Rattle.model.specs.Queues.{StartState, has_room_for_next, has_room_to_start, head_of, is_linked}
use Rattle.model.specs.Run.{run}
use Rattle.model.specs.Set.{Set, has_cancel, instruction_at, lower_of}
use Rattle.model.specs.Sound.{IsSound}
use Rattle.model.specs.Typable.{IsTypable}
use Rattle.model.specs.World.{innermost, owner_of, register}
use Rattle.laws_slots.specs.Rep.{Means}
use Rattle.laws_slots.specs.SlotStep.{key_at, top_frame}
use Rattle.laws_slots.specs.Slots.{SlotCancel, SlotFrame, SlotRoutine, SlotShared, SlotThread, SlotWalk, SlotWorld, packet_at, slot_queue, slot_start}

-- a register has a number, a status, or the key of a slot with a packet
pub record HasNumber (a : Activation) (r : ℕ) : Type 0 where
  pub number : ℕ
  pub is : register a r ≡ Num number

pub record HasStatus (a : Activation) (r : ℕ) : Type 0 where
  pub status : Status
  pub is : register a r ≡ StatusValue status

pub record HasKey (s : SlotShared) (a : Activation) (r : ℕ) : Type 0 where
  pub key : ℕ
  pub packet : Packet
  pub is : register a r ≡ Ref key
  pub lies : packet_at s key ≡ Some packet

-- a lock is there, and isn't the thread's that acquires it
pub record CanAcquire (s : SlotShared) (t : ℕ) (lock : Lock) : Type 0 where
  pub there : is_some (owner_of s.locks lock) ≡ true
  pub once : owner_of s.locks lock ≢ Some (Some t)

abbrev pub HasLock : SlotShared → Lock → Type 0
HasLock s lock = is_some (owner_of s.locks lock) ≡ true

-- a device has cells, a queue, or something for StartIo
abbrev pub HasCells : SlotShared → ℕ → Type 0
HasCells s device = device < length s.cells

pub record HasQueue (s : SlotShared) (device q : ℕ) : Type 0 where
  pub entries : List ℕ
  pub is : slot_queue s device q ≡ Some entries
  pub low : q < MAX_QUEUES

pub record HasStart (s : SlotShared) (device : ℕ) : Type 0 where
  pub start : StartState
  pub is : slot_start s device ≡ Some start

-- what follows holds of whatever is found there
abbrev pub QueueHasRoom : SlotShared → ℕ → ℕ → Type 0
QueueHasRoom s device q =
    (entries : List ℕ) → slot_queue s device q ≡ Some entries → length entries < MAX_ENTRIES

abbrev pub CanStart : SlotShared → ℕ → Type 0
CanStart s device =
    (start : StartState) → slot_start s device ≡ Some start → has_room_to_start start ≡ true

abbrev pub CanStartNext : SlotShared → ℕ → Type 0
CanStartNext s device =
    (start : StartState) → slot_start s device ≡ Some start → has_room_for_next start ≡ true

-- where the driver has a cancel routine for the device queue, the packet that is started next is
-- there
abbrev pub CanDisarmNext : Set → SlotShared → ℕ → ℕ → Type 0
CanDisarmNext set s driver device =
    (start : StartState) (k : ℕ) → slot_start s device ≡ Some start
    → has_cancel set driver DeviceQueue ≡ true → head_of start.device_queue ≡ Some k
    → is_some (packet_at s k) ≡ true

-- the key that is put into a list stands in none: in no queue of any device, no start list and no
-- device queue
abbrev pub in_queues : List (List (List ℕ)) → ℕ → Bool
in_queues queues k =
    list_any (λ lists. list_any (λ entries. is_linked entries k) lists) queues

abbrev pub to_start : List StartState → ℕ → Bool
to_start starts k =
    list_any (λ start. is_linked start.start_list k || is_linked start.device_queue k) starts

pub record CanBeListed (s : SlotShared) (k : ℕ) : Type 0 where
  pub queues : in_queues s.queues k ≡ false
  pub starts : to_start s.starts k ≡ false

-- a packet has a location below its current one
abbrev pub CanGoDown : SlotShared → Activation → ℕ → Type 0
CanGoDown s a r =
    (key : ℕ) (packet : Packet) → register a r ≡ Ref key → packet_at s key ≡ Some packet
    → packet.depth < length packet.locations.items

-- a routine returns what it has
abbrev pub ReturnFits : Activation → Return → Type 0
ReturnFits a (WithStatus status) = ⊤
ReturnFits a (Lower r) = HasStatus a r
ReturnFits a Continue = ⊤
ReturnFits a Stop = ⊤
ReturnFits a Void = ⊤

-- what an instruction of a thread's routine looks for
abbrev pub InstructionFits : Set → SlotShared → ℕ → Activation → Instr → Type 0
InstructionFits set s t a (Const r n) = ⊤
InstructionFits set s t a (Move r q) = ⊤
InstructionFits set s t a (Clear r) = ⊤
InstructionFits set s t a (Add r q) = HasNumber a r × HasNumber a q
InstructionFits set s t a (Subtract r q) = HasNumber a r × HasNumber a q
InstructionFits set s t a (JumpIfZero r label) = HasNumber a r
InstructionFits set s t a (JumpIfLess r q label) = HasNumber a r × HasNumber a q
InstructionFits set s t a (Jump label) = ⊤
InstructionFits set s t a (Loop turns) = length a.loops.items < MAX_LOOPS
InstructionFits set s t a End = is_some (innermost a) ≡ true
InstructionFits set s t a (Load r c) = HasCells s a.device
InstructionFits set s t a (Store c r) = HasCells s a.device × HasNumber a r
InstructionFits set s t a (LoadPaged r c) = HasCells s a.device
InstructionFits set s t a (StorePaged c r) = HasCells s a.device × HasNumber a r
InstructionFits set s t a (Get r q field) = HasKey s a q
InstructionFits set s t a (Put q r) = HasKey s a q × HasNumber a r
InstructionFits set s t a (Mark r) = HasKey s a r
InstructionFits set s t a (Acquire lock) = CanAcquire s t (spin_lock a lock)
InstructionFits set s t a (Release lock) = HasLock s (spin_lock a lock)
InstructionFits set s t a AcquireCancel = CanAcquire s t SystemCancel
InstructionFits set s t a ReleaseCancel = ⊤
InstructionFits set s t a (Insert r q) =
    HasKey s a r × HasQueue s a.device q × QueueHasRoom s a.device q × CanBeListed s (key_at a r)
InstructionFits set s t a (Remove r q label) = HasQueue s a.device q
InstructionFits set s t a (Unlink r q) = HasKey s a r × HasQueue s a.device q
InstructionFits set s t a (Arm r q) = HasKey s a r
InstructionFits set s t a (Disarm r label) = HasKey s a r
InstructionFits set s t a (IfCancel r label) = HasKey s a r
InstructionFits set s t a (Start r) =
    HasKey s a r × HasStart s a.device × CanStart s a.device × CanBeListed s (key_at a r)
InstructionFits set s t a (Take r label) = HasStart s a.device
InstructionFits set s t a (Begin r) = HasKey s a r × HasStart s a.device
InstructionFits set s t a Next =
    HasStart s a.device × CanStartNext s a.device × CanDisarmNext set s a.driver a.device
InstructionFits set s t a (Dequeue r) = HasKey s a r × HasStart s a.device
InstructionFits set s t a (Pass r) =
    HasKey s a r × (is_some (lower_of set a.device) ≡ true)
InstructionFits set s t a (Call r f) =
    HasKey s a r × (is_some (lower_of set a.device) ≡ true) × CanGoDown s a r
InstructionFits set s t a (Complete r status) = HasKey s a r
InstructionFits set s t a (IfPending r label) = HasKey s a r
InstructionFits set s t a (Ret form) = ReturnFits a form

-- the routine has an instruction at its position
pub record RoutineFits (set : Set) (s : SlotShared) (t : ℕ) (a : Activation) : Type 0 where
  pub instruction : Instr
  pub at : instruction_at set a.driver a.routine a.position ≡ Some instruction
  pub near : a.position < MAX_INSTRUCTIONS
  pub fits : InstructionFits set s t a instruction

abbrev pub CancelFits : SlotShared → ℕ → CancelStep → Type 0
CancelFits s t AcquireStep = CanAcquire s t SystemCancel
CancelFits s t SetFlag = ⊤
CancelFits s t Exchange = ⊤

-- a thread's top frame: of the I/O manager's frame that completes a packet, that is there
abbrev pub FrameFits : Set → SlotShared → ℕ → SlotFrame → Type 0
FrameFits set s t (SlotRoutine a) = RoutineFits set s t a
FrameFits set s t (SlotWalk k) = is_some (packet_at s k) ≡ true
FrameFits set s t (SlotCancel k n step) = CancelFits s t step

-- a thread has room for another frame
pub record ThreadFits (set : Set) (s : SlotShared) (t : ℕ) (x : SlotThread) : Type 0 where
  pub room : length x.frames < MAX_FRAMES
  pub top : (f : SlotFrame) → top_frame x.frames ≡ Some f → FrameFits set s t f

-- what an event looks for
abbrev pub EventFits : Set → SlotWorld → Event → Type 0
EventFits set v (Issue t d major argument) = ⊤
EventFits set v (CancelEvent t n level) = ⊤
EventFits set v (Interrupt d) = ⊤
EventFits set v (DpcEvent t d) = ⊤
EventFits set v (StartIoEvent t d) = ⊤
EventFits set v (Step t) =
    (x : SlotThread) → slice_get v.threads t ≡ Some x → ThreadFits set v.shared t x

-- in each run of an accepted set each event finds what it looks for
abbrev pub EventsFit : Type 0
EventsFit =
    (set : Set) → IsTypable set → IsSound set
    → (threads : ℕ) (events : List Event) (v : SlotWorld) (e : Event)
    → Means set v (run set threads events).world → EventFits set v e
