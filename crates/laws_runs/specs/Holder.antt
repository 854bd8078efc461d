-- Who holds a packet: a register that has the right to it, the I/O manager's frame that completes
-- it, a queue, what a device has for StartIo, or its cancel word.
use Rattle.std.specs.Prelude.{ℕ, ◌≡◌, ◌<◌, ◌≤◌, ◌+◌, ◌&&◌, not, Bool, List, [], ◌∷◌, length, Option, None, Some, is_some, nat_eq, nat_lt, slice_get, if◌then◌else◌, false}
use Rattle.model.specs.declared.abs.Kind.{Kind}
use Rattle.model.specs.declared.event.Event.{Event}
use Rattle.model.specs.declared.limits.TheConstants.{REGISTERS}
use Rattle.model.specs.declared.set.Routine.{Routine as RoutineOf}
use Rattle.model.specs.declared.world.Activation.{Activation}
use Rattle.model.specs.declared.world.Frame.{Frame}
use Rattle.model.specs.declared.world.Frame.TheVariants.{Routine, Walk, Cancel as CancelFrame}
use Rattle.model.specs.declared.world.Packet.{Packet}
use Rattle.model.specs.declared.world.Thread.{Thread}
use Rattle.model.specs.declared.world.Value.{Value}
use Rattle.model.specs.declared.world.Value.TheVariants.{Blank, Num, Ref, Status as StatusValue}
use Rattle.model.specs.Effect.{routine_of_device}
use Rattle.model.specs.Fault.{topped}
use Rattle.model.specs.Kinds.{is_right}
use Rattle.model.specs.LocalRule.{is_hold}
use Rattle.model.specs.Queues.{StartState}
use Rattle.model.specs.Run.{Run, frames_on, run}
use Rattle.model.specs.declared.set.QueueName.TheVariants.{DeviceQueue}
use Rattle.model.specs.Set.{has_cancel, Set, cancel_routine_of, routine_of, sort_of}
use Rattle.model.specs.Sound.{IsSound}
use Rattle.model.specs.Typable.{IsTypable}
use Rattle.model.specs.World.{Shared, packet_of}
use Rattle.laws_runs.specs.ArrivingStates.{States, StatesArrive}

-- 1 where a value refers to a packet, else 0
abbrev pub names : Value → ℕ → ℕ
names (Ref m) n = if nat_eq m n then 1 else 0
names Blank n = 0
names (Num number) n = 0
names (StatusValue status) n = 0

-- how many registers of some kinds name a packet
abbrev pub named_as : (Kind → Bool) → Kind → Value → ℕ → ℕ
named_as f k v n = if f k then names v n else 0

abbrev pub named_in : (Kind → Bool) → List Kind → List Value → ℕ → ℕ
named_in f [] values n = 0
named_in f (k ∷ kinds) [] n = 0
named_in f (k ∷ kinds) (v ∷ values) n = named_as f k v n + named_in f kinds values n

-- and how many have a right to it: it is theirs by their kind
abbrev pub right : Kind → Value → ℕ → ℕ
right k v n = named_as is_right k v n

abbrev pub rights : List Kind → List Value → ℕ → ℕ
rights kinds values n = named_in is_right kinds values n

-- the registers of a frame, by the state at its position, and the I/O manager's frames of a packet
abbrev pub frame_rights : States → Frame → ℕ → ℕ
frame_rights states (Routine a) n =
    rights (states a.driver a.routine a.position).kinds a.registers n
frame_rights states (Walk m) n = 0
frame_rights states (CancelFrame c) n = 0

abbrev pub frame_walks : Frame → ℕ → ℕ
frame_walks (Routine a) n = 0
frame_walks (Walk m) n = if nat_eq m n then 1 else 0
frame_walks (CancelFrame c) n = 0

abbrev pub stack_sum : (Frame → ℕ) → List Frame → ℕ
stack_sum count [] = 0
stack_sum count (f ∷ frames) = count f + stack_sum count frames

abbrev pub thread_sum : (Frame → ℕ) → List Thread → ℕ
thread_sum count [] = 0
thread_sum count (thread ∷ threads) = stack_sum count thread.frames.items + thread_sum count threads

-- the I/O manager's frames of a packet, but for one whose packet is lent to the completion routine
-- on it
abbrev pub is_lent : Set → List Frame → Bool
is_lent set [] = false
is_lent set (Routine b ∷ frames) = is_hold (sort_of set b.driver b.routine)
is_lent set (Walk m ∷ frames) = false
is_lent set (CancelFrame c ∷ frames) = false

abbrev pub walking : Set → List Frame → ℕ → ℕ
walking set [] n = 0
walking set (f ∷ frames) n =
    (if is_lent set frames then 0 else frame_walks f n) + walking set frames n

abbrev pub all_walking : Set → List Thread → ℕ → ℕ
all_walking set [] n = 0
all_walking set (thread ∷ threads) n = walking set thread.frames.items n + all_walking set threads n

abbrev pub holders : Set → States → List Thread → ℕ → ℕ
holders set states threads n =
    thread_sum (λ f. frame_rights states f n) threads + all_walking set threads n

-- how often a packet stands in a queue, in the queues of a device, and in those of all devices
abbrev pub times_in : List ℕ → ℕ → ℕ
times_in [] n = 0
times_in (m ∷ entries) n = (if nat_eq m n then 1 else 0) + times_in entries n

abbrev pub times_on : List (List ℕ) → ℕ → ℕ
times_on [] n = 0
times_on (entries ∷ lists) n = times_in entries n + times_on lists n

abbrev pub times_queued : List (List (List ℕ)) → ℕ → ℕ
times_queued [] n = 0
times_queued (lists ∷ queues) n = times_on lists n + times_queued queues n

-- how often it stands in queues without a cancel routine: in those of a device from a number on,
-- and in those of all devices from one on. Who has the right to a packet in a queue with a cancel
-- routine is told by its cancel word, or has it in a register
abbrev pub times_plain_on : Set → ℕ → ℕ → List (List ℕ) → ℕ → ℕ
times_plain_on set driver q [] n = 0
times_plain_on set driver q (entries ∷ lists) n =
    (if is_some (cancel_routine_of set driver q) then 0 else times_in entries n)
    + times_plain_on set driver (q + 1) lists n

abbrev pub times_plain : Set → ℕ → List (List (List ℕ)) → ℕ → ℕ
times_plain set d [] n = 0
times_plain set d (lists ∷ queues) n =
    times_plain_on set (routine_of_device (slice_get set.devices d)) 0 lists n
    + times_plain set (d + 1) queues n

-- 1 where a live packet's cancel word isn't empty
abbrev pub times_named : Option Packet → ℕ
times_named None = 0
times_named (Some p) = if is_some p.armer then 1 else 0

-- how often it stands in what a device has for StartIo, where it is held: in its start list, its
-- current slot, and its device queue, unless packets there have a cancel routine; in that of all
-- devices from one on; in all that hold it where no register does: the queues without a cancel
-- routine, what devices have for StartIo, and its cancel word; and in all lists together
abbrev pub times_in_slot : Option ℕ → ℕ → ℕ
times_in_slot None n = 0
times_in_slot (Some m) n = if nat_eq m n then 1 else 0

abbrev pub waits_cancelable : Set → ℕ → Bool
waits_cancelable set d = has_cancel set (routine_of_device (slice_get set.devices d)) DeviceQueue

abbrev pub times_at : Bool → StartState → ℕ → ℕ
times_at cancelable start n =
    times_in start.start_list n + (if cancelable then 0 else times_in start.device_queue n)
    + times_in_slot start.slot n

abbrev pub times_started : Set → ℕ → List StartState → ℕ → ℕ
times_started set d [] n = 0
times_started set d (start ∷ starts) n =
    times_at (waits_cancelable set d) start n + times_started set (d + 1) starts n

abbrev pub times_waiting : Set → Shared → ℕ → ℕ
times_waiting set s n =
    times_plain set 0 s.queues n + times_started set 0 s.starts n + times_named (packet_of s n)

abbrev pub times_to_start : List StartState → ℕ → ℕ
times_to_start [] n = 0
times_to_start (start ∷ starts) n =
    times_in start.start_list n + times_in start.device_queue n + times_to_start starts n

abbrev pub times_listed : Shared → ℕ → ℕ
times_listed s n = times_queued s.queues n + times_to_start s.starts n

abbrev pub alive : Option Packet → ℕ
alive None = 0
alive (Some p) = 1

-- a packet was issued in a run, and hasn't topped out
abbrev pub is_live : Run → ℕ → Bool
is_live r n = nat_lt n r.world.shared.issued && not (topped r.past n)

-- a routine's frame stands inside the code of a routine of its driver, with all its registers
pub record StandsInside (set : Set) (a : Activation) : Type 0 where
  pub routine : RoutineOf
  pub is_of : routine_of set a.driver a.routine ≡ Some routine
  pub inside : a.position < length routine.code
  pub registers : length a.registers ≡ REGISTERS

-- a packet of a run that was issued and hasn't topped out has one holder, be it a register, the I/O
-- manager's frame, a place in a start list or in a queue or device queue without a cancel routine,
-- a current slot, or its cancel word, is in the list of live packets, and stands at most once in
-- all lists together; any other one has none, isn't there, and stands in none. Every routine's
-- frame, on top of its thread or below, stands at a position, whose state tells its registers'
-- rights
pub record HasOneHolder (set : Set) (states : States) (threads : ℕ) (events : List Event) : Type 0
  where
    pub stand : (t k : ℕ) (a : Activation) → slice_get (frames_on (run set threads events).world t) k
        ≡ Some (Routine a)
        → StandsInside set a
    pub one : (n : ℕ) → holders set states (run set threads events).world.threads n
        + times_waiting set (run set threads events).world.shared n
        ≡ (if is_live (run set threads events) n then 1 else 0)
    pub once : (n : ℕ) → times_listed (run set threads events).world.shared n
        ≤ (if is_live (run set threads events) n then 1 else 0)
    pub listed : (n : ℕ) → alive (packet_of (run set threads events).world.shared n)
        ≡ (if is_live (run set threads events) n then 1 else 0)

abbrev pub PacketsHaveOneHolder : Type 0
PacketsHaveOneHolder =
    (set : Set) → IsTypable set → IsSound set
    → (states : States) × StatesArrive set states
    × ((threads : ℕ) (events : List Event) → HasOneHolder set states threads events)
