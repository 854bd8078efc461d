-- The bug checks, found by looking back over the whole trace. Where each is raised is this
-- project's own choice; their names and numbers are those of the bug check reference.
use Rattle.std.specs.Prelude.{ℕ, ◌+◌, ◌-◌, nat_le, ◌||◌, ◌&&◌, not, Bool, true, false, List, [], ◌∷◌, Option, None, Some, nat_eq, if◌then◌else◌}
use Rattle.std.specs.List.{list_any}
use Rattle.model.specs.declared.event.Bug.{Bug}
use Rattle.model.specs.declared.event.BugCheck.{BugCheck}
use Rattle.model.specs.declared.event.BugCheck.TheVariants.{IrqlNotLessOrEqual, SpinLockAlreadyOwned, SpinLockNotOwned, NoMoreIrpStackLocations, MultipleIrpCompleteRequests, CancelStateInCompletedIrp}
use Rattle.model.specs.declared.event.Lock.{Lock}
use Rattle.model.specs.declared.event.Lock.TheVariants.{SystemCancel, Spin}
use Rattle.model.specs.declared.event.Subject.{Subject}
use Rattle.model.specs.declared.event.Subject.TheVariants.{Packet, Lock as LockSubject, Cell}
use Rattle.model.specs.declared.world.Irql.{Irql}
use Rattle.model.specs.declared.world.Irql.TheVariants.{Passive, Apc, Dispatch}
use Rattle.model.specs.Action.{Action, LockAct, PacketAct, LocationAct, OnLock, OnPacket, OnLocation, OfRoutine, Acquire, Release, Touch, Complete, Continue, Lend, Exchange, TopOut, Issue, Call, Up, Mark, Leave, Execute, TouchPaged, Return, GoWrong}
use Rattle.model.specs.Trace.{Entry, Actor, entry}

-- the same lock
abbrev pub is_lock : Lock → Lock → Bool
is_lock SystemCancel SystemCancel = true
is_lock SystemCancel (Spin m) = false
is_lock (Spin l) SystemCancel = false
is_lock (Spin l) (Spin m) = nat_eq l.device m.device && nat_eq l.number m.number

-- what a thread did to a lock, what was done with a packet, and with its locations, the newest
-- first. A packet that is touched stays as it was
abbrev pub with_lock_act : Action → Bool → Lock → List LockAct → List LockAct
with_lock_act (OnLock m act) its_own l acts = if its_own && is_lock m l then act ∷ acts else acts
with_lock_act (OnPacket packet act) its_own l acts = acts
with_lock_act (OnLocation packet act) its_own l acts = acts
with_lock_act (OfRoutine act) its_own l acts = acts

abbrev pub lock_acts : List Entry → ℕ → Lock → List LockAct
lock_acts [] t l = []
lock_acts (e ∷ past) t l =
    with_lock_act e.action (nat_eq e.actor.thread t) l (lock_acts past t l)

abbrev pub with_packet_act : Action → ℕ → List PacketAct → List PacketAct
with_packet_act (OnPacket packet Touch) n acts = acts
with_packet_act (OnPacket m act) n acts = if nat_eq m n then act ∷ acts else acts
with_packet_act (OnLock lock act) n acts = acts
with_packet_act (OnLocation packet act) n acts = acts
with_packet_act (OfRoutine act) n acts = acts

abbrev pub packet_acts : List Entry → ℕ → List PacketAct
packet_acts [] n = []
packet_acts (e ∷ past) n = with_packet_act e.action n (packet_acts past n)

abbrev pub with_location_act : Action → ℕ → List LocationAct → List LocationAct
with_location_act (OnLocation m act) n acts = if nat_eq m n then act ∷ acts else acts
with_location_act (OnLock lock act) n acts = acts
with_location_act (OnPacket packet act) n acts = acts
with_location_act (OfRoutine act) n acts = acts

abbrev pub location_acts : List Entry → ℕ → List LocationAct
location_acts [] n = []
location_acts (e ∷ past) n = with_location_act e.action n (location_acts past n)

-- a thread holds a lock: the last that it did to it was to acquire it
abbrev pub ends_held : List LockAct → Bool
ends_held [] = false
ends_held (Acquire ∷ acts) = true
ends_held (Release ∷ acts) = false

abbrev pub holds : List Entry → ℕ → Lock → Bool
holds past t l = ends_held (lock_acts past t l)

-- the locks that were ever acquired
abbrev pub with_acquired : Action → List Lock → List Lock
with_acquired (OnLock l Acquire) locks = l ∷ locks
with_acquired (OnLock lock Release) locks = locks
with_acquired (OnPacket packet act) locks = locks
with_acquired (OnLocation packet act) locks = locks
with_acquired (OfRoutine act) locks = locks

abbrev pub acquired : List Entry → List Lock
acquired [] = []
acquired (e ∷ past) = with_acquired e.action (acquired past)

-- a thread holds a lock at all
abbrev pub holds_any : List Entry → ℕ → Bool
holds_any past t = list_any (λ l. holds past t l) (acquired past)

-- who acts is at DISPATCH_LEVEL: where its thread holds a lock, and else where its lowest frame is
abbrev pub is_dispatch_level : Irql → Bool
is_dispatch_level Passive = false
is_dispatch_level Apc = false
is_dispatch_level Dispatch = true

abbrev pub at_dispatch : List Entry → Actor → Bool
at_dispatch past actor = is_dispatch_level actor.root || holds_any past actor.thread

-- a packet has topped out
abbrev pub is_top_out : PacketAct → Bool
is_top_out Touch = false
is_top_out Complete = false
is_top_out Continue = false
is_top_out Lend = false
is_top_out (Exchange stores) = false
is_top_out TopOut = true

abbrev pub topped : List Entry → ℕ → Bool
topped past n = list_any is_top_out (packet_acts past n)

-- the I/O manager has a packet: the last of its completions, continues and lendings isn't a lending
abbrev pub ends_completing : List PacketAct → Bool
ends_completing [] = false
ends_completing (Touch ∷ acts) = ends_completing acts
ends_completing (Complete ∷ acts) = true
ends_completing (Continue ∷ acts) = true
ends_completing (Lend ∷ acts) = false
ends_completing (Exchange stores ∷ acts) = ends_completing acts
ends_completing (TopOut ∷ acts) = ends_completing acts

abbrev pub completing : List Entry → ℕ → Bool
completing past n = ends_completing (packet_acts past n)

-- a packet has a cancel routine: its last exchange stored one
abbrev pub ends_armed : List PacketAct → Bool
ends_armed [] = false
ends_armed (Touch ∷ acts) = ends_armed acts
ends_armed (Complete ∷ acts) = ends_armed acts
ends_armed (Continue ∷ acts) = ends_armed acts
ends_armed (Lend ∷ acts) = ends_armed acts
ends_armed (Exchange stores ∷ acts) = stores
ends_armed (TopOut ∷ acts) = ends_armed acts

abbrev pub armed : List Entry → ℕ → Bool
armed past n = ends_armed (packet_acts past n)

-- how many locations a packet has, and how far down it was sent: its issue and calls less its ups
abbrev pub stack_after : List LocationAct → ℕ
stack_after [] = 0
stack_after (Issue stack ∷ acts) = stack
stack_after (Call ∷ acts) = stack_after acts
stack_after (Up ∷ acts) = stack_after acts
stack_after (Mark ∷ acts) = stack_after acts
stack_after (Leave ∷ acts) = stack_after acts

abbrev pub stack_size : List Entry → ℕ → ℕ
stack_size past n = stack_after (location_acts past n)

abbrev pub depth_after : List LocationAct → ℕ
depth_after [] = 0
depth_after (Issue stack ∷ acts) = 1
depth_after (Call ∷ acts) = depth_after acts + 1
depth_after (Up ∷ acts) = depth_after acts - 1
depth_after (Mark ∷ acts) = depth_after acts
depth_after (Leave ∷ acts) = depth_after acts

abbrev pub depth : List Entry → ℕ → ℕ
depth past n = depth_after (location_acts past n)

abbrev pub bug_if : Bool → BugCheck → Subject → Option Bug
bug_if b check subject = if b then Some (record { check = check; subject = subject }) else None

abbrev pub first_or : Option Bug → Option Bug → Option Bug
first_or None later = later
first_or (Some bug) later = Some bug

-- a packet is completed that is completing or has topped out, or that has a cancel routine
abbrev pub completion_fault : List Entry → ℕ → Option Bug
completion_fault past n =
    first_or (bug_if (topped past n || completing past n) MultipleIrpCompleteRequests (Packet n))
    (bug_if (armed past n) CancelStateInCompletedIrp (Packet n))

-- the bug check of one action after a past: SPIN_LOCK_ALREADY_OWNED where a thread acquires a lock
-- that it holds, SPIN_LOCK_NOT_OWNED where it releases one that it doesn't hold,
-- IRQL_NOT_LESS_OR_EQUAL where it touches a paged cell at DISPATCH_LEVEL, or a packet that has
-- topped out, NO_MORE_IRP_STACK_LOCATIONS where it sends a packet down past its last location,
-- MULTIPLE_IRP_COMPLETE_REQUESTS where it completes one that is completing or has topped out,
-- CANCEL_STATE_IN_COMPLETED_IRP where it completes one that has a cancel routine
abbrev pub fault_of : List Entry → Actor → Action → Option Bug
fault_of past actor (OnLock l Acquire) =
    bug_if (holds past actor.thread l) SpinLockAlreadyOwned (LockSubject l)
fault_of past actor (OnLock l Release) =
    bug_if (not (holds past actor.thread l)) SpinLockNotOwned (LockSubject l)
fault_of past actor (OfRoutine (TouchPaged c)) =
    bug_if (at_dispatch past actor) IrqlNotLessOrEqual (Cell c)
fault_of past actor (OnPacket n Touch) = bug_if (topped past n) IrqlNotLessOrEqual (Packet n)
fault_of past actor (OnLocation n Call) =
    bug_if (nat_le (stack_size past n) (depth past n)) NoMoreIrpStackLocations (Packet n)
fault_of past actor (OnPacket n Complete) = completion_fault past n
fault_of past actor (OnPacket packet Continue) = None
fault_of past actor (OnPacket packet Lend) = None
fault_of past actor (OnPacket packet (Exchange stores)) = None
fault_of past actor (OnPacket packet TopOut) = None
fault_of past actor (OnLocation packet (Issue stack)) = None
fault_of past actor (OnLocation packet Up) = None
fault_of past actor (OnLocation packet Mark) = None
fault_of past actor (OnLocation packet Leave) = None
fault_of past actor (OfRoutine Execute) = None
fault_of past actor (OfRoutine (Return status)) = None
fault_of past actor (OfRoutine GoWrong) = None

-- the first bug check of an event's actions, in their order
abbrev pub first_fault : List Entry → Actor → List Action → Option Bug
first_fault past actor [] = None
first_fault past actor (action ∷ actions) =
    first_or (fault_of past actor action)
    (first_fault (entry past actor action ∷ past) actor actions)
