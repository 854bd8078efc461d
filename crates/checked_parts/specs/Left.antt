-- What a step of a frame leaves, as a machine does it that keeps no trace: it reads the bug checks
-- from the packets and the locks that it holds.
use Rattle.std.specs.Prelude.{ℕ, ◌+◌, ◌&&◌, ◌||◌, not, Bool, false, List, [], ◌∷◌, length, Option, None, Some, is_none, is_some, nat_lt, if◌then◌else◌}
use Rattle.model.specs.declared.world.Frame.{Frame}
use Rattle.model.specs.declared.world.Packet.{Packet}
use Rattle.model.specs.declared.limits.TheConstants.{MAX_FRAMES}
use Rattle.model.specs.declared.status.Status.{Status}
use Rattle.model.specs.declared.event.Bug.{Bug}
use Rattle.model.specs.declared.event.BugCheck.TheVariants.{IrqlNotLessOrEqual, SpinLockAlreadyOwned, SpinLockNotOwned, NoMoreIrpStackLocations, MultipleIrpCompleteRequests, CancelStateInCompletedIrp}
use Rattle.model.specs.declared.event.Subject.TheVariants.{Packet as PacketSubject, Lock as LockSubject, Cell}
use Rattle.model.specs.declared.event.Reply.{Reply}
use Rattle.model.specs.declared.event.Reply.TheVariants.{Started, Stepped, Finished, Topped, Waited, Idle, Refused, Bug as BugCheckReply, Wrong}
use Rattle.model.specs.Action.{Action, OnLock, OnPacket, OnLocation, OfRoutine, Acquire, Release, Touch, Complete, Continue, Lend, Exchange, TopOut, Issue, Call, Up, Mark, Leave, Execute, TouchPaged, Return, GoWrong}
use Rattle.model.specs.Effect.{Outcome, frame_effect, top_of, kept_below}
use Rattle.model.specs.Fault.{bug_if, first_or, is_dispatch_level}
use Rattle.model.specs.Set.{Set}
use Rattle.model.specs.World.{Shared, packet_of}
use Rattle.irql_locks.specs.Owns.{owns, owns_any}
use Rattle.checked_parts.specs.declared.ran.Runner.{Runner}

-- a packet was issued and isn't live: it has topped out
abbrev pub is_gone : Shared → ℕ → Bool
is_gone s n = nat_lt n s.issued && is_none (packet_of s n)

-- a packet is live, and the I/O manager has it
abbrev pub is_held : Option Packet → Bool
is_held None = false
is_held (Some p) = p.completing

-- a live packet has a cancel routine
abbrev pub is_armed : Option Packet → Bool
is_armed None = false
is_armed (Some p) = is_some p.armer

-- a live packet is at its last location
abbrev pub is_full : Option Packet → Bool
is_full None = false
is_full (Some p) = not (nat_lt p.depth (length p.locations.items))

-- a thread is at DISPATCH_LEVEL: where it owns a lock, and else where its lowest frame is
abbrev pub is_raised : Shared → Runner → Bool
is_raised s r = is_dispatch_level r.root || owns_any s.locks r.thread

-- the bug check of a thread's action, read from the packets and the locks
abbrev pub fault_now : Shared → Runner → Action → Option Bug
fault_now s r (OnLock l Acquire) =
    bug_if (owns s.locks r.thread l) SpinLockAlreadyOwned (LockSubject l)
fault_now s r (OnLock l Release) =
    bug_if (not (owns s.locks r.thread l)) SpinLockNotOwned (LockSubject l)
fault_now s r (OfRoutine (TouchPaged c)) = bug_if (is_raised s r) IrqlNotLessOrEqual (Cell c)
fault_now s r (OnPacket n Touch) = bug_if (is_gone s n) IrqlNotLessOrEqual (PacketSubject n)
fault_now s r (OnLocation n Call) =
    bug_if (is_full (packet_of s n)) NoMoreIrpStackLocations (PacketSubject n)
fault_now s r (OnPacket n Complete) =
    first_or
    (bug_if (is_gone s n || is_held (packet_of s n)) MultipleIrpCompleteRequests (PacketSubject n))
    (bug_if (is_armed (packet_of s n)) CancelStateInCompletedIrp (PacketSubject n))
fault_now s r (OnPacket packet Continue) = None
fault_now s r (OnPacket packet Lend) = None
fault_now s r (OnPacket packet (Exchange stores)) = None
fault_now s r (OnPacket packet TopOut) = None
fault_now s r (OnLocation packet (Issue stack)) = None
fault_now s r (OnLocation packet Up) = None
fault_now s r (OnLocation packet Mark) = None
fault_now s r (OnLocation packet Leave) = None
fault_now s r (OfRoutine Execute) = None
fault_now s r (OfRoutine (Return status)) = None
fault_now s r (OfRoutine GoWrong) = None

-- the first bug check of a step's actions
abbrev pub first_now : Shared → Runner → List Action → Option Bug
first_now s r [] = None
first_now s r (action ∷ actions) = first_or (fault_now s r action) (first_now s r actions)

-- what a frame's step leaves: the shared part, the frames that stand in its place, the reply,
-- whether the frame below goes too, and the status that the one then below is told
pub record Left : Type 0 where
  pub shared : Shared
  pub frames : List Frame
  pub reply : Reply
  pub taken_below : Bool
  pub told : Option Status

-- nothing changes
abbrev pub stays : Shared → Frame → Reply → Left
stays s f reply =
    record { shared = s; frames = f ∷ []; reply = reply; taken_below = false; told = None }

-- what an outcome leaves
abbrev pub moves : Outcome → Left
moves o =
    record {
      shared = o.shared;
      frames = o.frames;
      reply = o.reply;
      taken_below = o.taken_below;
      told = o.told;
    }

-- a step that would give a list an entry more than it has room for is refused
abbrev pub unless_full : Shared → Frame → Outcome → Left
unless_full s f o = if o.full then stays s f Refused else moves o

-- a step with a bug check, or with a wrong operand, changes nothing
abbrev pub unless_wrong : Shared → Frame → Outcome → Reply → Left
unless_wrong s f o (Wrong place) = stays s f (Wrong place)
unless_wrong s f o (Started packet) = unless_full s f o
unless_wrong s f o Stepped = unless_full s f o
unless_wrong s f o Finished = unless_full s f o
unless_wrong s f o (Topped packet status info) = unless_full s f o
unless_wrong s f o Waited = unless_full s f o
unless_wrong s f o Idle = unless_full s f o
unless_wrong s f o Refused = unless_full s f o
unless_wrong s f o (BugCheckReply bug) = unless_full s f o

abbrev pub left_by : Shared → Frame → Outcome → Option Bug → Left
left_by s f o (Some bug) = stays s f (BugCheckReply bug)
left_by s f o None = unless_wrong s f o o.reply

abbrev pub judged : Shared → Runner → Frame → Outcome → Left
judged s r f o = left_by s f o (first_now s r o.actions)

-- a step that would leave a 33rd frame on its thread is refused
abbrev pub fits : ℕ → Shared → Frame → Left → List Frame → Left
fits below s f left [] = left
fits below s f left (g ∷ []) = left
fits below s f left (g ∷ h ∷ frames) =
    if nat_lt MAX_FRAMES (below + length (g ∷ h ∷ frames)) then stays s f Refused else left

abbrev pub bounded : List Frame → Shared → Frame → Left → Left
bounded below s f left = fits (length (kept_below below left.taken_below)) s f left left.frames

-- a step of a thread's frame, over these frames
abbrev pub frame_now : Set → Shared → Runner → List Frame → Frame → Left
frame_now set s r below f =
    bounded below s f (judged s r f (frame_effect set s r.thread (top_of below) f))
