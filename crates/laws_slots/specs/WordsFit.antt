-- What an event on words looks for, and finds: the instruction, the packet of a key, a word that is
-- the value of a status, a lock, a queue with room, lists without the key that is put into one, room
-- for another frame. Any word may be read as a number. Who carries an event out tests none of it.
use Rattle.std.specs.Prelude.{ℕ, ◌≡◌, ◌<◌, ⊤, true, List, length, Some, is_some, slice_get}
use Rattle.model.specs.declared.event.Event.{Event}
use Rattle.model.specs.declared.event.Event.TheVariants.{Issue, Cancel as CancelEvent, Interrupt, Dpc as DpcEvent, StartIo as StartIoEvent, Step}
use Rattle.model.specs.declared.event.Lock.TheVariants.{SystemCancel}
use Rattle.model.specs.declared.instr.Instr.{Instr}
use Rattle.model.specs.declared.instr.Instr.TheVariants.{Const, Move, Clear, Add, Subtract, JumpIfZero, JumpIfLess, Jump, Loop, End, Load, Store, LoadPaged, StorePaged, Get, Put, Mark, Acquire, Release, AcquireCancel, ReleaseCancel, Insert, Remove, Unlink, Arm, Disarm, IfCancel, Start, Take, Begin, Next, Dequeue, Pass, Call, Complete, IfPending, Ret}
use Rattle.model.specs.declared.instr.Return.{Return}
use Rattle.model.specs.declared.instr.Return.TheVariants.{WithStatus, Lower, Continue, Stop, Void}
use Rattle.model.specs.declared.limits.TheConstants.{MAX_FRAMES, MAX_INSTRUCTIONS, MAX_LOOPS}
use Rattle.model.specs.declared.status.Status.{Status}
use Rattle.model.specs.declared.world.Packet.{Packet}
use Rattle.model.specs.Run.{run}
use Rattle.model.specs.Set.{Set, instruction_at, lower_of}
use Rattle.model.specs.Sound.{IsSound}
use Rattle.model.specs.Status.{status_code}
use Rattle.model.specs.Typable.{IsTypable}
use Rattle.laws_slots.specs.Fits.{CanAcquire, CanBeListed, CanDisarmNext, CanStart, CanStartNext, CancelFits, HasCells, HasLock, HasQueue, HasStart, QueueHasRoom}
use Rattle.laws_slots.specs.Slots.{SlotShared, packet_at}
use Rattle.laws_slots.specs.declared.activation.WordActivation.{WordActivation}
use Rattle.laws_slots.specs.Reads.{WordsMean}
use Rattle.laws_slots.specs.Words.{WordCancel, WordFrame, WordRoutine, WordThread, WordWalk, WordWorld, innermost, spin_lock, word}
use Rattle.laws_slots.specs.WordStep.{top_frame}

-- a word is the key of a slot with a packet, or the value of a status
abbrev pub IsKey : SlotShared → ℕ → Type 0
IsKey s n = is_some (packet_at s n) ≡ true

pub record IsStatus (n : ℕ) : Type 0 where
  pub status : Status
  pub is : n ≡ status_code status

-- a packet has a location below its current one
abbrev pub CanGoDown : SlotShared → ℕ → Type 0
CanGoDown s n =
    (packet : Packet) → packet_at s n ≡ Some packet
    → packet.depth < length packet.locations.items

-- a routine returns what it has
abbrev pub ReturnFits : WordActivation → Return → Type 0
ReturnFits a (WithStatus status) = ⊤
ReturnFits a (Lower r) = IsStatus (word a r)
ReturnFits a Continue = ⊤
ReturnFits a Stop = ⊤
ReturnFits a Void = ⊤

-- what an instruction of a thread's routine looks for
abbrev pub WordInstructionFits : Set → SlotShared → ℕ → WordActivation → Instr → Type 0
WordInstructionFits set s t a (Const r n) = ⊤
WordInstructionFits set s t a (Move r q) = ⊤
WordInstructionFits set s t a (Clear r) = ⊤
WordInstructionFits set s t a (Add r q) = ⊤
WordInstructionFits set s t a (Subtract r q) = ⊤
WordInstructionFits set s t a (JumpIfZero r label) = ⊤
WordInstructionFits set s t a (JumpIfLess r q label) = ⊤
WordInstructionFits set s t a (Jump label) = ⊤
WordInstructionFits set s t a (Loop turns) = length a.loops.items < MAX_LOOPS
WordInstructionFits set s t a End = is_some (innermost a) ≡ true
WordInstructionFits set s t a (Load r c) = HasCells s a.device
WordInstructionFits set s t a (Store c r) = HasCells s a.device
WordInstructionFits set s t a (LoadPaged r c) = HasCells s a.device
WordInstructionFits set s t a (StorePaged c r) = HasCells s a.device
WordInstructionFits set s t a (Get r q field) = IsKey s (word a q)
WordInstructionFits set s t a (Put q r) = IsKey s (word a q)
WordInstructionFits set s t a (Mark r) = IsKey s (word a r)
WordInstructionFits set s t a (Acquire lock) = CanAcquire s t (spin_lock a lock)
WordInstructionFits set s t a (Release lock) = HasLock s (spin_lock a lock)
WordInstructionFits set s t a AcquireCancel = CanAcquire s t SystemCancel
WordInstructionFits set s t a ReleaseCancel = ⊤
WordInstructionFits set s t a (Insert r q) =
    IsKey s (word a r) × HasQueue s a.device q × QueueHasRoom s a.device q
    × CanBeListed s (word a r)
WordInstructionFits set s t a (Remove r q label) = HasQueue s a.device q
WordInstructionFits set s t a (Unlink r q) = IsKey s (word a r) × HasQueue s a.device q
WordInstructionFits set s t a (Arm r q) = IsKey s (word a r)
WordInstructionFits set s t a (Disarm r label) = IsKey s (word a r)
WordInstructionFits set s t a (IfCancel r label) = IsKey s (word a r)
WordInstructionFits set s t a (Start r) =
    IsKey s (word a r) × HasStart s a.device × CanStart s a.device
    × CanBeListed s (word a r)
WordInstructionFits set s t a (Take r label) = HasStart s a.device
WordInstructionFits set s t a (Begin r) = IsKey s (word a r) × HasStart s a.device
WordInstructionFits set s t a Next =
    HasStart s a.device × CanStartNext s a.device × CanDisarmNext set s a.driver a.device
WordInstructionFits set s t a (Dequeue r) = IsKey s (word a r) × HasStart s a.device
WordInstructionFits set s t a (Pass r) =
    IsKey s (word a r) × (is_some (lower_of set a.device) ≡ true)
WordInstructionFits set s t a (Call r f) =
    IsKey s (word a r) × (is_some (lower_of set a.device) ≡ true) × CanGoDown s (word a r)
WordInstructionFits set s t a (Complete r status) = IsKey s (word a r)
WordInstructionFits set s t a (IfPending r label) = IsKey s (word a r)
WordInstructionFits set s t a (Ret form) = ReturnFits a form

-- the routine has an instruction at its position
pub record WordRoutineFits (set : Set) (s : SlotShared) (t : ℕ) (a : WordActivation) : Type 0 where
  pub instruction : Instr
  pub at : instruction_at set a.driver a.routine a.position ≡ Some instruction
  pub near : a.position < MAX_INSTRUCTIONS
  pub fits : WordInstructionFits set s t a instruction

-- a thread's top frame: of the I/O manager's frame that completes a packet, that is there
abbrev pub WordFrameFits : Set → SlotShared → ℕ → WordFrame → Type 0
WordFrameFits set s t (WordRoutine a) = WordRoutineFits set s t a
WordFrameFits set s t (WordWalk k) = is_some (packet_at s k) ≡ true
WordFrameFits set s t (WordCancel k n step) = CancelFits s t step

-- a thread has room for another frame
pub record WordThreadFits (set : Set) (s : SlotShared) (t : ℕ) (x : WordThread) : Type 0 where
  pub room : length x.frames < MAX_FRAMES
  pub top : (f : WordFrame) → top_frame x.frames ≡ Some f → WordFrameFits set s t f

-- what an event looks for
abbrev pub WordEventFits : Set → WordWorld → Event → Type 0
WordEventFits set w (Issue t d major argument) = ⊤
WordEventFits set w (CancelEvent t n level) = ⊤
WordEventFits set w (Interrupt d) = ⊤
WordEventFits set w (DpcEvent t d) = ⊤
WordEventFits set w (StartIoEvent t d) = ⊤
WordEventFits set w (Step t) =
    (x : WordThread) → slice_get w.threads t ≡ Some x → WordThreadFits set w.shared t x

-- in each run of an accepted set each event finds what it looks for
abbrev pub WordEventsFit : Type 0
WordEventsFit =
    (set : Set) → IsTypable set → IsSound set
    → (threads : ℕ) (events : List Event) (w : WordWorld) (e : Event)
    → WordsMean set w (run set threads events).world → WordEventFits set w e
