-- What a machine shows of the world of a run. It needn't keep all that the world has: not whether
-- the I/O manager has a packet, nor what stands in a register from which no instruction may take
-- anything. Its words needn't say of what kind they are, so a register is shown as it may be read:
-- as a number, as a status, and as a packet.
use Rattle.std.specs.Prelude.{ℕ, ◌≡◌, ◌≢◌, ◌-◌, ⊤, Bool, List, [], ◌∷◌, map, false, true, Option, None, Some, is_some, slice_get, slice_index_or}
use Rattle.model.specs.declared.abs.Abs.{Abs}
use Rattle.model.specs.declared.set.Routine.{Routine as RoutineOf}
use Rattle.model.specs.declared.status.Status.{Status}
use Rattle.model.specs.declared.world.Activation.{Activation}
use Rattle.model.specs.declared.world.Armer.{Armer}
use Rattle.model.specs.declared.world.Canceller.{Canceller}
use Rattle.model.specs.declared.world.Cells.{Cells}
use Rattle.model.specs.declared.world.Frame.{Frame}
use Rattle.model.specs.declared.world.Frame.TheVariants.{Routine, Walk, Cancel as CancelFrame}
use Rattle.model.specs.declared.world.Irql.{Irql}
use Rattle.model.specs.declared.world.Location.{Location}
use Rattle.model.specs.declared.world.OpenLoop.{OpenLoop}
use Rattle.model.specs.declared.world.Packet.{Packet}
use Rattle.model.specs.declared.world.Thread.{Thread}
use Rattle.model.specs.declared.world.Value.{Value}
use Rattle.model.specs.declared.world.Value.TheVariants.{Blank, Num, Ref, Status as StatusValue}
use Rattle.model.specs.Effect.{operand_of}
use Rattle.model.specs.Kinds.{is_blank}
use Rattle.model.specs.LocalRule.{kind_of}
use Rattle.model.specs.Paths.{Arrives}
use Rattle.model.specs.Queues.{StartState}
use Rattle.model.specs.Set.{Set, instruction_at, member, routine_of}
use Rattle.model.specs.World.{Locks, Shared, World, packet_of, register}

-- a register, as it may be read
pub record ShownRegister : Type 0 where
  pub number : Option ℕ
  pub status : Option Status
  pub packet : Option ℕ

-- a routine that runs: which one, for which device, how far it is, its open loops and registers
pub record ShownActivation : Type 0 where
  pub driver : ℕ
  pub routine : ℕ
  pub device : ℕ
  pub position : ℕ
  pub loops : List OpenLoop
  pub registers : List ShownRegister

-- a frame: a routine, or the I/O manager, which completes a packet or cancels one
pub data ShownFrame : Type 0 where
  ShownRoutine : ShownActivation → ShownFrame
  ShownWalk : ℕ → ShownFrame
  ShownCancel : Canceller → ShownFrame

-- a thread: the level of its lowest frame, and its frames, the lowest first
pub record ShownThread : Type 0 where
  pub root : Irql
  pub frames : List ShownFrame

-- a live packet: all that it has, but for whether the I/O manager has it
pub record ShownPacket : Type 0 where
  pub number : ℕ
  pub depth : ℕ
  pub locations : List Location
  pub status : Status
  pub info : ℕ
  pub pending_returned : Bool
  pub cancel : Bool
  pub armer : Option Armer

-- a machine: its set, its threads, its live packets in the order of their numbers, in a row its
-- slots, each with the number of the packet that stands in it or none, how many packets were
-- issued, and the rest of what threads share
pub record Shown : Type 0 where
  pub set : Set
  pub threads : List ShownThread
  pub packets : List ShownPacket
  pub slots : List (Option ℕ)
  pub issued : ℕ
  pub locks : Locks
  pub cells : List Cells
  pub queues : List (List (List ℕ))
  pub starts : List StartState
  pub dpcs : List Bool

-- what is shown of a packet
abbrev pub shown_packet : Packet → ShownPacket
shown_packet p =
    record {
      number = p.number;
      depth = p.depth;
      locations = p.locations.items;
      status = p.status;
      info = p.info;
      pending_returned = p.pending_returned;
      cancel = p.cancel;
      armer = p.armer;
    }

-- a register may be read as the value that it has; where it has none, it may be read as anything
abbrev pub Reads : ShownRegister → Value → Type 0
Reads x Blank = ⊤
Reads x (Num n) = x.number ≡ Some n
Reads x (Ref n) = x.packet ≡ Some n
Reads x (StatusValue status) = x.status ≡ Some status

-- the register in which a routine is told what a lower driver returned, while that driver's routine
-- stands on it
abbrev pub told_register : Set → Option Frame → Activation → Option ℕ
told_register set None a = None
told_register set (Some (Walk n)) a = None
told_register set (Some (CancelFrame c)) a = None
told_register set (Some (Routine b)) a =
    operand_of (instruction_at set a.driver a.routine (a.position - 1))

-- an instruction may take something from a register of a routine's frame that has another on it or
-- none: where it stands the register's kind isn't Blank, and the routine needn't be told it first
pub record MayBeTaken (set : Set) (above : Option Frame) (a : Activation) (r : ℕ) : Type 0 where
  pub routine : RoutineOf
  pub state : Abs
  pub is_of : routine_of set a.driver a.routine ≡ Some routine
  pub arrives : Arrives (member set a.driver a.routine routine) a.position state
  pub kind : is_blank (kind_of state r) ≡ false
  pub untold : told_register set above a ≢ Some r

abbrev pub blank_register : ShownRegister
blank_register = record { number = None; status = None; packet = None }

-- a routine's frame is shown: each register that may be taken from may be read as what it has
pub record ShowsRoutine (set : Set) (above : Option Frame) (x : ShownActivation) (a : Activation)
    : Type 0 where
  pub driver : x.driver ≡ a.driver
  pub routine : x.routine ≡ a.routine
  pub device : x.device ≡ a.device
  pub position : x.position ≡ a.position
  pub loops : x.loops ≡ a.loops.items
  pub registers : (r : ℕ) → MayBeTaken set above a r
      → Reads (slice_index_or x.registers r blank_register) (register a r)

-- a frame is shown that has another on it or none. The I/O manager's packet counts while it is live
abbrev pub ShowsFrame : Set → Shared → Option Frame → ShownFrame → Frame → Type 0
ShowsFrame set s above (ShownRoutine x) (Routine a) = ShowsRoutine set above x a
ShowsFrame set s above (ShownRoutine x) (Walk n) = ⊥
ShowsFrame set s above (ShownRoutine x) (CancelFrame c) = ⊥
ShowsFrame set s above (ShownWalk m) (Routine a) = ⊥
ShowsFrame set s above (ShownWalk m) (Walk n) = is_some (packet_of s n) ≡ true → m ≡ n
ShowsFrame set s above (ShownWalk m) (CancelFrame c) = ⊥
ShowsFrame set s above (ShownCancel b) (Routine a) = ⊥
ShowsFrame set s above (ShownCancel b) (Walk n) = ⊥
ShowsFrame set s above (ShownCancel b) (CancelFrame c) = b ≡ c

-- the frames of a thread, and all threads
abbrev pub ShowsFrames : Set → Shared → List ShownFrame → List Frame → Type 0
ShowsFrames set s [] [] = ⊤
ShowsFrames set s [] (f ∷ frames) = ⊥
ShowsFrames set s (x ∷ shown) [] = ⊥
ShowsFrames set s (x ∷ shown) (f ∷ frames) =
    ShowsFrame set s (slice_get frames 0) x f × ShowsFrames set s shown frames

abbrev pub ShowsThread : Set → Shared → ShownThread → Thread → Type 0
ShowsThread set s x thread =
    (x.root ≡ thread.root) × ShowsFrames set s x.frames thread.frames.items

abbrev pub ShowsThreads : Set → Shared → List ShownThread → List Thread → Type 0
ShowsThreads set s [] [] = ⊤
ShowsThreads set s [] (thread ∷ threads) = ⊥
ShowsThreads set s (x ∷ shown) [] = ⊥
ShowsThreads set s (x ∷ shown) (thread ∷ threads) =
    ShowsThread set s x thread × ShowsThreads set s shown threads

-- a machine shows a world. Where its packets stand is its own affair
pub record ShowsWorld (m : Shown) (w : World) : Type 0 where
  pub threads : ShowsThreads m.set w.shared m.threads w.threads
  pub packets : m.packets ≡ map shown_packet w.shared.packets
  pub issued : m.issued ≡ w.shared.issued
  pub locks : m.locks ≡ w.shared.locks
  pub cells : m.cells ≡ w.shared.cells
  pub queues : m.queues ≡ w.shared.queues
  pub starts : m.starts ≡ w.shared.starts
  pub dpcs : m.dpcs ≡ w.shared.dpcs

-- what a machine shows that keeps a world whole, each live packet in a slot in the order of numbers
abbrev pub whole_register : Value → ShownRegister
whole_register Blank = blank_register
whole_register (Num n) = record blank_register { number = Some n }
whole_register (Ref n) = record blank_register { packet = Some n }
whole_register (StatusValue status) = record blank_register { status = Some status }

abbrev pub whole_frame : Frame → ShownFrame
whole_frame (Routine a) =
    ShownRoutine (record {
      driver = a.driver;
      routine = a.routine;
      device = a.device;
      position = a.position;
      loops = a.loops.items;
      registers = map whole_register a.registers;
    })
whole_frame (Walk n) = ShownWalk n
whole_frame (CancelFrame c) = ShownCancel c

abbrev pub whole_thread : Thread → ShownThread
whole_thread thread =
    record { root = thread.root; frames = map whole_frame thread.frames.items }

abbrev pub whole : Set → World → Shown
whole set w =
    record {
      set = set;
      threads = map whole_thread w.threads;
      packets = map shown_packet w.shared.packets;
      slots = map (λ (p : Packet). Some p.number) w.shared.packets;
      issued = w.shared.issued;
      locks = w.shared.locks;
      cells = w.shared.cells;
      queues = w.shared.queues;
      starts = w.shared.starts;
      dpcs = w.shared.dpcs;
    }
