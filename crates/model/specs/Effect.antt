-- What a step of a thread's top frame does: the shared part of the world and the frames after it,
-- the actions that make it up, and the reply. It tells what is idle, waited for or wrong. It looks
-- for no bug check: those are found from the actions (the module Fault).
use Rattle.std.specs.Prelude.{ℕ, ◌+◌, ◌-◌, ◌%◌, ◌^◌, ◌&&◌, not, is_none, option_and_then, option_map, slice_index_or, Bool, true, false, List, [], ◌∷◌, ◌++◌, length, Option, None, Some, nat_eq, nat_lt, take, slice_get, slice_set, if◌then◌else◌}
use Rattle.model.specs.declared.world.Activation.{Activation}
use Rattle.model.specs.declared.world.Frame.{Frame}
use Rattle.model.specs.declared.world.Frame.TheVariants.{Routine, Walk, Cancel as CancelFrame}
use Rattle.model.specs.declared.world.Armer.{Armer}
use Rattle.model.specs.declared.world.CancelStep.{CancelStep}
use Rattle.model.specs.declared.world.CancelStep.TheVariants.{Acquire as AcquireStep, SetFlag, Exchange}
use Rattle.model.specs.declared.limits.TheConstants.{MAX_LOOPS}
use Rattle.model.specs.declared.world.Packet.{Packet}
use Rattle.model.specs.declared.world.Cells.{Cells}
use Rattle.model.specs.declared.world.OpenLoop.{OpenLoop}
use Rattle.model.specs.declared.world.Value.TheVariants.{Blank, Num, Ref, Status as StatusValue}
use Rattle.model.specs.declared.status.Status.{Status}
use Rattle.model.specs.declared.status.Major.{Major}
use Rattle.model.specs.declared.instr.Instr.{Instr}
use Rattle.model.specs.declared.instr.Field.{Field}
use Rattle.model.specs.declared.instr.Instr.TheVariants.{Const, Move, Clear, Add, Subtract, JumpIfZero, JumpIfLess, Jump, Loop, End, Load, Store, LoadPaged, StorePaged, Get, Put, Mark, Acquire, Release, AcquireCancel, ReleaseCancel, Insert, Remove, Unlink, Arm, Disarm, IfCancel, Start, Take, Begin, Next, Dequeue, Pass, Call, Complete, IfPending, Ret}
use Rattle.model.specs.declared.instr.Return.{Return}
use Rattle.model.specs.declared.instr.Return.TheVariants.{WithStatus, Lower, Continue, Stop, Void}
use Rattle.model.specs.declared.set.Device.{Device}
use Rattle.model.specs.declared.set.QueueName.TheVariants.{Declared, DeviceQueue}
use Rattle.model.specs.declared.set.Sort.{Sort}
use Rattle.model.specs.declared.set.Sort.TheVariants.{Dispatch, StartIo, Dpc, Propagate, Hold, Cancel}
use Rattle.model.specs.declared.world.Completion.{Completion}
use Rattle.model.specs.declared.event.Lock.{Lock}
use Rattle.model.specs.declared.event.Lock.TheVariants.{SystemCancel, Spin}
use Rattle.model.specs.declared.event.OfDevice.{OfDevice}
use Rattle.model.specs.declared.event.Reply.{Reply}
use Rattle.model.specs.declared.event.Reply.TheVariants.{Stepped, Topped, Waited, Wrong}
use Rattle.model.specs.Action.{Action, Executes, Acquires, Releases, TouchesPaged, Touches, Calls, Ups, Completes, Continues, Lends, Exchanges, Marks, Leaves, Returns, TopsOut, GoesWrong}
use Rattle.model.specs.Queues.{StartState, is_full, inserted, unlinked, head_of, dequeued, started, has_room_to_start, next_started, has_room_for_next, with_slot}
use Rattle.model.specs.Set.{Set, serving, instruction_at, sort_of, lower_of, cancel_routine_of, cancel_routine_named, default_number, has_cancel}
use Rattle.model.specs.World.{Shared, owner_of, with_owner, with_locks, with_cells, packet_of, with_packet, without_packet, packet_in, number_in, status_in, register, next, at_label, with_register, innermost, outer_loops, with_loops, field_of, with_info, mark_current, cancelled, with_armer, current_location, sent_down, shared_with, left_location, moved_up, carried_up, completion_of, asked_of, completed, entered, queue_of, with_queue, start_of, with_start}

-- what a frame's step leaves: the shared part of the world, the frames that stand in place of the
-- one that ran (the lowest first), the actions in order, the reply, whether the frame below is
-- taken away with the one that ran, the status that the frame then below is told, and whether a
-- list would get an entry more than it has room for
pub record Outcome : Type 0 where
  pub shared : Shared
  pub frames : List Frame
  pub actions : List Action
  pub reply : Reply
  pub taken_below : Bool
  pub told : Option Status
  pub full : Bool

-- a step after which these frames stand in place of the one that ran; nothing changes below
abbrev pub leaves : Shared → List Frame → List Action → Outcome
leaves s frames actions =
    record {
      shared = s;
      frames = frames;
      actions = actions;
      reply = Stepped;
      taken_below = false;
      told = None;
      full = false;
    }

-- the frame's step is wrong: nothing but that happens
abbrev pub goes_wrong : Shared → Activation → Outcome
goes_wrong s a =
    record (leaves s (Routine a ∷ []) (GoesWrong ∷ [])) {
      reply = Wrong (record { driver = a.driver; routine = a.routine; position = a.position });
    }

-- an instruction is executed, and the routine goes on
abbrev pub goes_on : Shared → Activation → List Action → Outcome
goes_on s a actions = leaves s (Routine a ∷ []) (Executes ∷ actions)

-- a register becomes a number that is computed, if the operands were numbers
abbrev pub number_effect : Shared → Activation → ℕ → Option ℕ → Outcome
number_effect s a r None = goes_wrong s a
number_effect s a r (Some n) = goes_on s (next (with_register a r (Num n))) []

-- what two numbers make, if both are numbers
abbrev pub of_both : {A : Type 0} → (ℕ → ℕ → A) → Option ℕ → Option ℕ → Option A
of_both f m n = option_and_then (λ x. option_map (λ y. f x y) n) m

-- sums and differences wrap at 2^64
abbrev pub sum_of : Activation → ℕ → ℕ → Option ℕ
sum_of a r q =
    of_both (λ x y. (x + y) % 2 ^ 64) (number_in (register a r)) (number_in (register a q))

abbrev pub difference_of : Activation → ℕ → ℕ → Option ℕ
difference_of a r q = of_both (λ x y. (x + (2 ^ 64 - y)) % 2 ^ 64) (number_in (register a r))
    (number_in (register a q))

-- a jump, if the test's operands were numbers
abbrev pub jump_effect : Shared → Activation → ℕ → Option Bool → Outcome
jump_effect s a label None = goes_wrong s a
jump_effect s a label (Some jumps) = goes_on s (if jumps then at_label a label else next a) []

abbrev pub is_zero_at : Activation → ℕ → Option Bool
is_zero_at a r = option_map (λ n. nat_eq n 0) (number_in (register a r))

abbrev pub is_less_at : Activation → ℕ → ℕ → Option Bool
is_less_at a r q = of_both nat_lt (number_in (register a r)) (number_in (register a q))

-- `loop n`: opens a loop of n turns; at most four are open
abbrev pub loop_effect : Shared → Activation → ℕ → Outcome
loop_effect s a turns =
    if nat_lt (length a.loops.items) MAX_LOOPS
    then goes_on s
    (next (with_loops a
    (a.loops.items ++ record { start = a.position + 1; turns = turns } ∷ []))) []
    else goes_wrong s a

-- `end`: where turns are left it goes back to the start of the loop's body, else it closes the loop
abbrev pub turned : Activation → OpenLoop → Activation
turned a l =
    if nat_lt 1 l.turns
    then at_label
    (with_loops a (outer_loops a ++ record { start = l.start; turns = l.turns - 1 } ∷ []))
    l.start
    else next (with_loops a (outer_loops a))

abbrev pub end_effect : Shared → Activation → Option OpenLoop → Outcome
end_effect s a None = goes_wrong s a
end_effect s a (Some l) = goes_on s (turned a l) []

-- a cell of the activation's device is read; no activation is of a device that isn't there
abbrev pub cell_of : Activation → ℕ → OfDevice
cell_of a c = record { device = a.device; number = c }

abbrev pub load_effect : Shared → Activation → ℕ → ℕ → Option Cells → Outcome
load_effect s a r c None = goes_wrong s a
load_effect s a r c (Some cells) =
    goes_on s (next (with_register a r (Num (slice_index_or cells.plain c 0)))) []

abbrev pub load_paged_effect : Shared → Activation → ℕ → ℕ → Option Cells → Outcome
load_paged_effect s a r c None = goes_wrong s a
load_paged_effect s a r c (Some cells) =
    goes_on s (next (with_register a r (Num (slice_index_or cells.paged c 0))))
    (TouchesPaged (cell_of a c) ∷ [])

-- and written
abbrev pub stored : Cells → ℕ → ℕ → Cells
stored cells c n = record cells { plain = slice_set cells.plain c n }

abbrev pub stored_paged : Cells → ℕ → ℕ → Cells
stored_paged cells c n = record cells { paged = slice_set cells.paged c n }

abbrev pub store_effect : Shared → Activation → ℕ → Option ℕ → Option Cells → Outcome
store_effect s a c None cells = goes_wrong s a
store_effect s a c (Some n) None = goes_wrong s a
store_effect s a c (Some n) (Some cells) =
    goes_on (with_cells s a.device (stored cells c n)) (next a) []

abbrev pub store_paged_effect : Shared → Activation → ℕ → Option ℕ → Option Cells → Outcome
store_paged_effect s a c None cells = goes_wrong s a
store_paged_effect s a c (Some n) None = goes_wrong s a
store_paged_effect s a c (Some n) (Some cells) =
    goes_on (with_cells s a.device (stored_paged cells c n)) (next a)
    (TouchesPaged (cell_of a c) ∷ [])

-- `get r s F`: a field of a packet is read
abbrev pub get_packet : Shared → Activation → ℕ → Field → ℕ → Option Packet → Outcome
get_packet s a r field n None = goes_on s (next a) (Touches n ∷ [])
get_packet s a r field n (Some p) =
    goes_on s (next (with_register a r (Num (field_of p field)))) (Touches n ∷ [])

abbrev pub get_effect : Shared → Activation → ℕ → Field → Option ℕ → Outcome
get_effect s a r field None = goes_wrong s a
get_effect s a r field (Some n) = get_packet s a r field n (packet_of s n)

-- `put s r`: the packet's information becomes a number
abbrev pub put_packet : Shared → Activation → ℕ → ℕ → Option Packet → Outcome
put_packet s a info n None = goes_on s (next a) (Touches n ∷ [])
put_packet s a info n (Some p) =
    goes_on (with_packet s n (with_info p info)) (next a) (Touches n ∷ [])

abbrev pub put_effect : Shared → Activation → Option ℕ → Option ℕ → Outcome
put_effect s a None n = goes_wrong s a
put_effect s a (Some info) None = goes_wrong s a
put_effect s a (Some info) (Some n) = put_packet s a info n (packet_of s n)

-- `acquire l`, `acqc`: a free lock becomes the thread's; it waits while another thread owns it
abbrev pub waits : Shared → Activation → Outcome
waits s a = record (leaves s (Routine a ∷ []) []) { reply = Waited }

abbrev pub acquire_owned : Shared → ℕ → Activation → Lock → Option ℕ → Outcome
acquire_owned s t a lock None =
    goes_on (with_locks s (with_owner s.locks lock (Some t))) (next a) (Acquires lock ∷ [])
acquire_owned s t a lock (Some owner) =
    if nat_eq owner t then goes_on s (next a) (Acquires lock ∷ []) else waits s a

abbrev pub acquire_effect : Shared → ℕ → Activation → Lock → Option (Option ℕ) → Outcome
acquire_effect s t a lock None = goes_wrong s a
acquire_effect s t a lock (Some owner) = acquire_owned s t a lock owner

-- `release l`, `relc`: the lock becomes free
abbrev pub release_effect : Shared → Activation → Lock → Option (Option ℕ) → Outcome
release_effect s a lock None = goes_wrong s a
release_effect s a lock (Some owner) =
    goes_on (with_locks s (with_owner s.locks lock None)) (next a) (Releases lock ∷ [])

abbrev pub spin_lock : Activation → ℕ → Lock
spin_lock a lock = Spin (record { device = a.device; number = lock })

-- `insert r q`: the packet goes to the back of a queue of the device
abbrev pub insert_into : Shared → Activation → ℕ → ℕ → List ℕ → Outcome
insert_into s a q n entries =
    record (goes_on (with_queue s a.device q (inserted entries n)) (next a) (Touches n ∷ [])) {
      full = is_full entries;
    }

abbrev pub insert_effect : Shared → Activation → ℕ → Option ℕ → Option (List ℕ) → Outcome
insert_effect s a q None entries = goes_wrong s a
insert_effect s a q (Some n) None = goes_wrong s a
insert_effect s a q (Some n) (Some entries) = insert_into s a q n entries

-- `remove r q L`: the first packet of a queue of the device is taken off; jumps where there is none
abbrev pub remove_from : Shared → Activation → ℕ → ℕ → ℕ → List ℕ → Outcome
remove_from s a r q label [] = goes_on s (at_label a label) []
remove_from s a r q label (n ∷ entries) =
    goes_on (with_queue s a.device q entries) (next (with_register a r (Ref n))) (Touches n ∷ [])

abbrev pub remove_effect : Shared → Activation → ℕ → ℕ → ℕ → Option (List ℕ) → Outcome
remove_effect s a r q label None = goes_wrong s a
remove_effect s a r q label (Some entries) = remove_from s a r q label entries

-- `unlink r q`: the packet is taken off a queue of the device, wherever it stands there
abbrev pub unlink_effect : Shared → Activation → ℕ → Option ℕ → Option (List ℕ) → Outcome
unlink_effect s a q None entries = goes_wrong s a
unlink_effect s a q (Some n) None = goes_wrong s a
unlink_effect s a q (Some n) (Some entries) =
    goes_on (with_queue s a.device q (unlinked entries n)) (next a) (Touches n ∷ [])

-- `arm r q`: the packet's cancel routine becomes that of the queue; a plain queue has none
abbrev pub armer_of : Activation → ℕ → Armer
armer_of a q = record { device = a.device; queue = Declared q }

abbrev pub arm_packet : Shared → Activation → ℕ → ℕ → Option Packet → Outcome
arm_packet s a q n None = goes_on s (next a) (Touches n ∷ [])
arm_packet s a q n (Some p) =
    goes_on (with_packet s n (with_armer p (Some (armer_of a q)))) (next a)
    (Touches n ∷ Exchanges n true ∷ [])

abbrev pub arm_effect : Shared → Activation → ℕ → Option ℕ → Option ℕ → Outcome
arm_effect s a q None cancel = goes_wrong s a
arm_effect s a q (Some n) None = goes_wrong s a
arm_effect s a q (Some n) (Some cancel) = arm_packet s a q n (packet_of s n)

-- `disarm r L`: the packet has no cancel routine then; jumps where it had none before
abbrev pub disarm_packet : Shared → Activation → ℕ → ℕ → Option Packet → Outcome
disarm_packet s a label n None = goes_on s (next a) (Touches n ∷ [])
disarm_packet s a label n (Some p) =
    goes_on (with_packet s n (with_armer p None))
    (if is_none p.armer then at_label a label else next a) (Touches n ∷ Exchanges n false ∷ [])

abbrev pub disarm_effect : Shared → Activation → ℕ → Option ℕ → Outcome
disarm_effect s a label None = goes_wrong s a
disarm_effect s a label (Some n) = disarm_packet s a label n (packet_of s n)

-- `ifcancel r L`: jumps if Irp->Cancel is set
abbrev pub ask_packet : Shared → Activation → ℕ → ℕ → Option Packet → Outcome
ask_packet s a label n None = goes_on s (next a) (Touches n ∷ [])
ask_packet s a label n (Some p) =
    goes_on s (if p.cancel then at_label a label else next a) (Touches n ∷ [])

abbrev pub ask_effect : Shared → Activation → ℕ → Option ℕ → Outcome
ask_effect s a label None = goes_wrong s a
ask_effect s a label (Some n) = ask_packet s a label n (packet_of s n)

-- `start r`: IoStartPacket. Where the driver has a cancel routine for the device queue, that becomes
-- the cancel routine of a packet which has to wait there
abbrev pub armer_waiting : Activation → Armer
armer_waiting a = record { device = a.device; queue = DeviceQueue }

abbrev pub start_waiting : Shared → Activation → ℕ → StartState → Option Packet → Outcome
start_waiting s a n start None =
    goes_on (with_start s a.device (started start n)) (next a) (Touches n ∷ [])
start_waiting s a n start (Some p) =
    goes_on
    (with_start (with_packet s n (with_armer p (Some (armer_waiting a)))) a.device
    (started start n)) (next a)
    (Touches n ∷ Exchanges n true ∷ [])

abbrev pub start_packet : Shared → Activation → ℕ → StartState → Bool → Outcome
start_packet s a n start false =
    goes_on (with_start s a.device (started start n)) (next a) (Touches n ∷ [])
start_packet s a n start true = start_waiting s a n start (packet_of s n)

abbrev pub start_effect : Set → Shared → Activation → Option ℕ → Option StartState → Outcome
start_effect set s a None start = goes_wrong s a
start_effect set s a (Some n) None = goes_wrong s a
start_effect set s a (Some n) (Some start) =
    record (start_packet s a n start (has_cancel set a.driver DeviceQueue && start.busy)) {
      full = not (has_room_to_start start);
    }

-- `take r L`: the packet in the current slot is taken out of it; jumps where there is none
abbrev pub take_from : Shared → Activation → ℕ → ℕ → StartState → Option ℕ → Outcome
take_from s a r label start None = goes_on s (at_label a label) []
take_from s a r label start (Some n) =
    goes_on (with_start s a.device (with_slot start None)) (next (with_register a r (Ref n))) []

abbrev pub take_effect : Shared → Activation → ℕ → ℕ → Option StartState → Outcome
take_effect s a r label None = goes_wrong s a
take_effect s a r label (Some start) = take_from s a r label start start.slot

-- `begin r`: the packet is put into the current slot
abbrev pub begin_effect : Shared → Activation → Option ℕ → Option StartState → Outcome
begin_effect s a None start = goes_wrong s a
begin_effect s a (Some n) None = goes_wrong s a
begin_effect s a (Some n) (Some start) =
    goes_on (with_start s a.device (with_slot start (Some n))) (next a) (Touches n ∷ [])

-- `next`: IoStartNextPacket. Where the driver has a cancel routine for the device queue, the packet
-- that is started has none any more
abbrev pub next_packet : Shared → Activation → StartState → ℕ → Option Packet → Outcome
next_packet s a start n None =
    goes_on (with_start s a.device (next_started start)) (next a) (Touches n ∷ [])
next_packet s a start n (Some p) =
    goes_on (with_start (with_packet s n (with_armer p None)) a.device (next_started start)) (next a)
    (Touches n ∷ Exchanges n false ∷ [])

abbrev pub next_waiting : Shared → Activation → StartState → Option ℕ → Outcome
next_waiting s a start None = goes_on (with_start s a.device (next_started start)) (next a) []
next_waiting s a start (Some n) = next_packet s a start n (packet_of s n)

-- the packet whose cancel word `next` empties
abbrev pub next_disarmed : Set → Activation → StartState → Option ℕ
next_disarmed set a start =
    if has_cancel set a.driver DeviceQueue then head_of start.device_queue else None

abbrev pub next_effect : Set → Shared → Activation → Option StartState → Outcome
next_effect set s a None = goes_wrong s a
next_effect set s a (Some start) =
    record (next_waiting s a start (next_disarmed set a start)) {
      full = not (has_room_for_next start);
    }

-- `dequeue r`: the packet is taken off the device queue, wherever it stands there
abbrev pub dequeue_effect : Shared → Activation → Option ℕ → Option StartState → Outcome
dequeue_effect s a None start = goes_wrong s a
dequeue_effect s a (Some n) None = goes_wrong s a
dequeue_effect s a (Some n) (Some start) =
    goes_on (with_start s a.device (dequeued start n)) (next a) (Touches n ∷ [])

-- `mark r`: the current location of the packet is marked
abbrev pub mark_packet : Shared → Activation → ℕ → Option Packet → Outcome
mark_packet s a n None = goes_on s (next a) (Touches n ∷ [])
mark_packet s a n (Some p) =
    goes_on (with_packet s n (mark_current p)) (next a) (Touches n ∷ Marks n ∷ [])

abbrev pub mark_effect : Shared → Activation → Option ℕ → Outcome
mark_effect s a None = goes_wrong s a
mark_effect s a (Some n) = mark_packet s a n (packet_of s n)

-- `complete r STATUS`: the I/O manager takes the packet, and walks up its locations
abbrev pub complete_packet : Shared → Activation → Status → ℕ → Option Packet → Outcome
complete_packet s a status n None = goes_on s (next a) (Completes n ∷ [])
complete_packet s a status n (Some p) =
    leaves (with_packet s n (completed p status)) (Routine (next a) ∷ Walk n ∷ [])
    (Executes ∷ Completes n ∷ [])

abbrev pub complete_effect : Shared → Activation → Status → Option ℕ → Outcome
complete_effect s a status None = goes_wrong s a
complete_effect s a status (Some n) = complete_packet s a status n (packet_of s n)

-- the dispatch routine that serves what a packet asks of a device, begins
abbrev pub serving_for : Set → ℕ → Option Major → ℕ
serving_for set driver None = default_number
serving_for set driver (Some major) = serving (slice_get set.drivers driver) major

abbrev pub dispatched : Set → ℕ → Option Device → Option Major → ℕ → Activation
dispatched set device None major n = entered 0 default_number device (Ref n)
dispatched set device (Some d) major n =
    entered d.driver (serving_for set d.driver major) device (Ref n)

-- the caller waits, and the lower driver's routine begins
abbrev pub asks : Set → Activation → ℕ → Packet → ℕ → List Frame
asks set a lower p n =
    Routine (next a)
    ∷ Routine (dispatched set lower (slice_get set.devices lower) (asked_of (current_location p)) n)
    ∷ []

-- `pass r`: the lower driver is asked in the caller's location
abbrev pub pass_packet : Set → Shared → Activation → ℕ → ℕ → Option Packet → Outcome
pass_packet set s a lower n None = goes_on s (next a) (Touches n ∷ [])
pass_packet set s a lower n (Some p) =
    leaves (with_packet s n (shared_with p lower)) (asks set a lower p n)
    (Executes ∷ Touches n ∷ [])

abbrev pub pass_effect : Set → Shared → Activation → Option ℕ → Option ℕ → Outcome
pass_effect set s a None lower = goes_wrong s a
pass_effect set s a (Some n) None = goes_wrong s a
pass_effect set s a (Some n) (Some lower) = pass_packet set s a lower n (packet_of s n)

-- `call r`, `call r f`: it is asked in a location of its own
abbrev pub set_by : Activation → Option ℕ → Option Completion
set_by a f = option_map (λ routine. record { routine = routine; device = a.device }) f

abbrev pub call_packet : Set → Shared → Activation → Option ℕ → ℕ → ℕ → Option Packet → Outcome
call_packet set s a f lower n None = goes_on s (next a) (Touches n ∷ [])
call_packet set s a f lower n (Some p) =
    leaves (with_packet s n (sent_down p lower (set_by a f))) (asks set a lower p n)
    (Executes ∷ Touches n ∷ Calls n ∷ [])

abbrev pub call_effect : Set → Shared → Activation → Option ℕ → Option ℕ → Option ℕ → Outcome
call_effect set s a f None lower = goes_wrong s a
call_effect set s a f (Some n) None = goes_wrong s a
call_effect set s a f (Some n) (Some lower) = call_packet set s a f lower n (packet_of s n)

-- `ifpending r L`: jumps if Irp->PendingReturned is set
abbrev pub look_packet : Shared → Activation → ℕ → ℕ → Option Packet → Outcome
look_packet s a label n None = goes_on s (next a) (Touches n ∷ [])
look_packet s a label n (Some p) =
    goes_on s (if p.pending_returned then at_label a label else next a) (Touches n ∷ [])

abbrev pub look_effect : Shared → Activation → ℕ → Option ℕ → Outcome
look_effect s a label None = goes_wrong s a
look_effect s a label (Some n) = look_packet s a label n (packet_of s n)

-- `ret ..`: the frame is gone. A dispatch routine returns a status, of its own or a lower driver's,
-- which the frame below is told
abbrev pub returned : Shared → Status → Outcome
returned s status = record (leaves s [] (Executes ∷ Returns status ∷ [])) { told = Some status }

abbrev pub return_lower : Shared → Activation → Option Status → Outcome
return_lower s a None = goes_wrong s a
return_lower s a (Some status) = returned s status

-- a completion routine lets the completion of the frame below go on, whose packet is looked at
abbrev pub touched_under : Option Frame → List Action
touched_under None = []
touched_under (Some (Routine a)) = []
touched_under (Some (Walk n)) = Touches n ∷ []
touched_under (Some (CancelFrame c)) = []

abbrev pub continued : Shared → Option Frame → Outcome
continued s under = leaves s [] (Executes ∷ touched_under under)

-- one that was lent the packet gives it back to the I/O manager with that
abbrev pub given_back : Shared → ℕ → Option Packet → Shared
given_back s n None = s
given_back s n (Some p) = with_packet s n (record p { completing = true })

abbrev pub let_on : Shared → Option Frame → Outcome
let_on s None = leaves s [] (Executes ∷ [])
let_on s (Some (Routine a)) = leaves s [] (Executes ∷ [])
let_on s (Some (Walk n)) =
    leaves (given_back s n (packet_of s n)) [] (Executes ∷ Touches n ∷ Continues n ∷ [])
let_on s (Some (CancelFrame c)) = leaves s [] (Executes ∷ [])

-- or it stops the completion: the I/O manager's frame below is gone too
abbrev pub is_walk : Option Frame → Bool
is_walk None = false
is_walk (Some (Routine a)) = false
is_walk (Some (Walk n)) = true
is_walk (Some (CancelFrame c)) = false

abbrev pub stopped : Shared → Option Frame → Outcome
stopped s under = record (leaves s [] (Executes ∷ [])) { taken_below = is_walk under }

-- a StartIo, DPC or cancel routine returns nothing
abbrev pub ended : Shared → Outcome
ended s = leaves s [] (Executes ∷ [])

-- each sort has its forms
abbrev pub return_effect : Shared → Activation → Option Frame → Sort → Return → Outcome
return_effect s a under Dispatch (WithStatus status) = returned s status
return_effect s a under Dispatch (Lower r) = return_lower s a (status_in (register a r))
return_effect s a under Dispatch Continue = goes_wrong s a
return_effect s a under Dispatch Stop = goes_wrong s a
return_effect s a under Dispatch Void = goes_wrong s a
return_effect s a under StartIo (WithStatus status) = goes_wrong s a
return_effect s a under StartIo (Lower r) = goes_wrong s a
return_effect s a under StartIo Continue = goes_wrong s a
return_effect s a under StartIo Stop = goes_wrong s a
return_effect s a under StartIo Void = ended s
return_effect s a under Dpc (WithStatus status) = goes_wrong s a
return_effect s a under Dpc (Lower r) = goes_wrong s a
return_effect s a under Dpc Continue = goes_wrong s a
return_effect s a under Dpc Stop = goes_wrong s a
return_effect s a under Dpc Void = ended s
return_effect s a under Propagate (WithStatus status) = goes_wrong s a
return_effect s a under Propagate (Lower r) = goes_wrong s a
return_effect s a under Propagate Continue = continued s under
return_effect s a under Propagate Stop = stopped s under
return_effect s a under Propagate Void = goes_wrong s a
return_effect s a under Hold (WithStatus status) = goes_wrong s a
return_effect s a under Hold (Lower r) = goes_wrong s a
return_effect s a under Hold Continue = let_on s under
return_effect s a under Hold Stop = stopped s under
return_effect s a under Hold Void = goes_wrong s a
return_effect s a under Cancel (WithStatus status) = goes_wrong s a
return_effect s a under Cancel (Lower r) = goes_wrong s a
return_effect s a under Cancel Continue = goes_wrong s a
return_effect s a under Cancel Stop = goes_wrong s a
return_effect s a under Cancel Void = ended s

-- the instruction at the activation's position, on a thread, over a frame or none
abbrev pub instruction_effect : Set → Shared → ℕ → Option Frame → Activation → Instr → Outcome
instruction_effect set s t under a (Const r n) = goes_on s (next (with_register a r (Num n))) []
instruction_effect set s t under a (Move r q) =
    goes_on s (next (with_register a r (register a q))) []
instruction_effect set s t under a (Clear r) = goes_on s (next (with_register a r Blank)) []
instruction_effect set s t under a (Add r q) = number_effect s a r (sum_of a r q)
instruction_effect set s t under a (Subtract r q) = number_effect s a r (difference_of a r q)
instruction_effect set s t under a (JumpIfZero r label) = jump_effect s a label (is_zero_at a r)
instruction_effect set s t under a (JumpIfLess r q label) = jump_effect s a label (is_less_at a r q)
instruction_effect set s t under a (Jump label) = goes_on s (at_label a label) []
instruction_effect set s t under a (Loop turns) = loop_effect s a turns
instruction_effect set s t under a End = end_effect s a (innermost a)
instruction_effect set s t under a (Load r c) = load_effect s a r c (slice_get s.cells a.device)
instruction_effect set s t under a (Store c r) =
    store_effect s a c (number_in (register a r)) (slice_get s.cells a.device)
instruction_effect set s t under a (LoadPaged r c) =
    load_paged_effect s a r c (slice_get s.cells a.device)
instruction_effect set s t under a (StorePaged c r) =
    store_paged_effect s a c (number_in (register a r)) (slice_get s.cells a.device)
instruction_effect set s t under a (Get r q field) =
    get_effect s a r field (packet_in s (register a q))
instruction_effect set s t under a (Put q r) =
    put_effect s a (number_in (register a r)) (packet_in s (register a q))
instruction_effect set s t under a (Mark r) = mark_effect s a (packet_in s (register a r))
instruction_effect set s t under a (Acquire lock) =
    acquire_effect s t a (spin_lock a lock) (owner_of s.locks (spin_lock a lock))
instruction_effect set s t under a (Release lock) =
    release_effect s a (spin_lock a lock) (owner_of s.locks (spin_lock a lock))
instruction_effect set s t under a AcquireCancel =
    acquire_effect s t a SystemCancel (owner_of s.locks SystemCancel)
instruction_effect set s t under a ReleaseCancel =
    release_effect s a SystemCancel (owner_of s.locks SystemCancel)
instruction_effect set s t under a (Insert r q) =
    insert_effect s a q (packet_in s (register a r)) (queue_of s a.device q)
instruction_effect set s t under a (Remove r q label) =
    remove_effect s a r q label (queue_of s a.device q)
instruction_effect set s t under a (Unlink r q) =
    unlink_effect s a q (packet_in s (register a r)) (queue_of s a.device q)
instruction_effect set s t under a (Arm r q) =
    arm_effect s a q (packet_in s (register a r)) (cancel_routine_of set a.driver q)
instruction_effect set s t under a (Disarm r label) =
    disarm_effect s a label (packet_in s (register a r))
instruction_effect set s t under a (IfCancel r label) =
    ask_effect s a label (packet_in s (register a r))
instruction_effect set s t under a (Start r) =
    start_effect set s a (packet_in s (register a r)) (start_of s a.device)
instruction_effect set s t under a (Take r label) = take_effect s a r label (start_of s a.device)
instruction_effect set s t under a (Begin r) =
    begin_effect s a (packet_in s (register a r)) (start_of s a.device)
instruction_effect set s t under a Next = next_effect set s a (start_of s a.device)
instruction_effect set s t under a (Dequeue r) =
    dequeue_effect s a (packet_in s (register a r)) (start_of s a.device)
instruction_effect set s t under a (Pass r) =
    pass_effect set s a (packet_in s (register a r)) (lower_of set a.device)
instruction_effect set s t under a (Call r f) =
    call_effect set s a f (packet_in s (register a r)) (lower_of set a.device)
instruction_effect set s t under a (IfPending r label) =
    look_effect s a label (packet_in s (register a r))
instruction_effect set s t under a (Complete r status) =
    complete_effect s a status (packet_in s (register a r))
instruction_effect set s t under a (Ret form) =
    return_effect s a under (sort_of set a.driver a.routine) form

abbrev pub routine_effect : Set → Shared → ℕ → Option Frame → Activation → Option Instr → Outcome
routine_effect set s t under a None = goes_wrong s a
routine_effect set s t under a (Some i) = instruction_effect set s t under a i

-- a step of the I/O manager, which completes a packet: completion leaves the current location
-- (Driver Kit, IoCompleteRequest, IoCompletion routines). If a routine is set there it runs for the
-- device that set it, over the I/O manager's frame
abbrev pub routine_of_device : Option Device → ℕ
routine_of_device None = 0
routine_of_device (Some d) = d.driver

abbrev pub completes_with : Set → Completion → ℕ → Activation
completes_with set c n =
    entered (routine_of_device (slice_get set.devices c.device)) c.routine c.device (Ref n)

-- one that may hold the packet is lent it
abbrev pub sort_of_completion : Set → Completion → Sort
sort_of_completion set c =
    sort_of set (routine_of_device (slice_get set.devices c.device)) c.routine

abbrev pub lent_to : Sort → Packet → Packet
lent_to Dispatch p = p
lent_to StartIo p = p
lent_to Dpc p = p
lent_to Propagate p = p
lent_to Hold p = record p { completing = false }
lent_to Cancel p = p

abbrev pub lending : Sort → ℕ → List Action
lending Dispatch n = []
lending StartIo n = []
lending Dpc n = []
lending Propagate n = []
lending Hold n = Lends n ∷ []
lending Cancel n = []

abbrev pub walk_to_routine : Set → Shared → ℕ → Packet → Completion → Outcome
walk_to_routine set s n p c =
    let sort : Sort = sort_of_completion set c in
    leaves (with_packet s n (lent_to sort (moved_up p)))
    (Walk n ∷ Routine (completes_with set c n) ∷ [])
    (Touches n ∷ Leaves n ∷ Ups n ∷ lending sort n)

-- without one the I/O manager carries the mark up to the next location
abbrev pub marked_above : Packet → ℕ → List Action
marked_above p n = if p.pending_returned then Marks n ∷ [] else []

abbrev pub walk_up : Shared → ℕ → Packet → Outcome
walk_up s n p =
    leaves (with_packet s n (carried_up p)) (Walk n ∷ [])
    (Touches n ∷ Leaves n ∷ Ups n ∷ marked_above p n)

-- at the first location the packet tops out
abbrev pub walk_out : Shared → ℕ → Packet → Outcome
walk_out s n p =
    record (leaves (without_packet s n) [] (Touches n ∷ Leaves n ∷ TopsOut n ∷ [])) {
      reply = Topped n p.status p.info;
    }

abbrev pub walk_from : Set → Shared → ℕ → Packet → Option Completion → Outcome
walk_from set s n p (Some c) = walk_to_routine set s n p c
walk_from set s n p None = if nat_lt 1 p.depth then walk_up s n p else walk_out s n p

abbrev pub walk_packet : Set → Shared → ℕ → Option Packet → Outcome
walk_packet set s n None = leaves s [] (Touches n ∷ [])
walk_packet set s n (Some p) =
    walk_from set s n (left_location p) (completion_of (current_location p))

-- a step of the I/O manager, which cancels a packet (Driver Kit, IoCancelIrp): it acquires the
-- system cancel spin lock; sets the packet's cancel flag; and exchanges its cancel routine with
-- none. Where one was set, that runs in its place with the lock held; else it releases the lock.
-- Where the packet has topped out it releases the lock too
abbrev pub goes_on_cancelling : ℕ → CancelStep → List Frame
goes_on_cancelling n step = CancelFrame (record { packet = n; next = step }) ∷ []

abbrev pub cancel_acquires : Shared → ℕ → ℕ → Option ℕ → Outcome
cancel_acquires s t n None =
    leaves (with_locks s (with_owner s.locks SystemCancel (Some t))) (goes_on_cancelling n SetFlag)
    (Acquires SystemCancel ∷ [])
cancel_acquires s t n (Some owner) =
    if nat_eq owner t
    then leaves s (goes_on_cancelling n SetFlag) (Acquires SystemCancel ∷ [])
    else record (leaves s (goes_on_cancelling n AcquireStep) []) { reply = Waited }

abbrev pub cancel_ends : Shared → List Action → Outcome
cancel_ends s actions =
    leaves (with_locks s (with_owner s.locks SystemCancel None)) []
    (actions ++ Releases SystemCancel ∷ [])

abbrev pub cancel_flags : Shared → ℕ → Option Packet → Outcome
cancel_flags s n None = cancel_ends s []
cancel_flags s n (Some p) =
    leaves (with_packet s n (cancelled p)) (goes_on_cancelling n Exchange) []

abbrev pub cancel_calls : Shared → ℕ → Armer → ℕ → Option ℕ → Outcome
cancel_calls s n armer driver None = cancel_ends s (Exchanges n false ∷ [])
cancel_calls s n armer driver (Some routine) =
    leaves s (Routine (entered driver routine armer.device (Ref n)) ∷ []) (Exchanges n false ∷ [])

abbrev pub cancel_armed : Set → Shared → ℕ → Option Armer → Outcome
cancel_armed set s n None = cancel_ends s (Exchanges n false ∷ [])
cancel_armed set s n (Some armer) =
    let driver : ℕ = routine_of_device (slice_get set.devices armer.device) in
    cancel_calls s n armer driver (cancel_routine_named set driver armer.queue)

abbrev pub cancel_exchanges : Set → Shared → ℕ → Option Packet → Outcome
cancel_exchanges set s n None = cancel_ends s []
cancel_exchanges set s n (Some p) =
    cancel_armed set (with_packet s n (with_armer p None)) n p.armer

abbrev pub cancel_step : Set → Shared → ℕ → ℕ → CancelStep → Outcome
cancel_step set s t n AcquireStep = cancel_acquires s t n (s.locks.system_cancel)
cancel_step set s t n SetFlag = cancel_flags s n (packet_of s n)
cancel_step set s t n Exchange = cancel_exchanges set s n (packet_of s n)

-- one step of a thread's top frame, over another frame or none
abbrev pub frame_effect : Set → Shared → ℕ → Option Frame → Frame → Outcome
frame_effect set s t under (Routine a) =
    routine_effect set s t under a (instruction_at set a.driver a.routine a.position)
frame_effect set s t under (Walk n) = walk_packet set s n (packet_of s n)
frame_effect set s t under (CancelFrame c) = cancel_step set s t c.packet c.next

-- a routine that waits for a lower driver is told what that returned, in the register of its `pass`
-- or `call`
abbrev pub told_in : Instr → Option ℕ
told_in (Const r n) = None
told_in (Move r q) = None
told_in (Clear r) = None
told_in (Add r q) = None
told_in (Subtract r q) = None
told_in (JumpIfZero r label) = None
told_in (JumpIfLess r q label) = None
told_in (Jump label) = None
told_in (Loop turns) = None
told_in End = None
told_in (Load r c) = None
told_in (Store c r) = None
told_in (LoadPaged r c) = None
told_in (StorePaged c r) = None
told_in (Get r q field) = None
told_in (Put q r) = None
told_in (Mark r) = None
told_in (Acquire lock) = None
told_in (Release lock) = None
told_in AcquireCancel = None
told_in ReleaseCancel = None
told_in (Insert r q) = None
told_in (Remove r q label) = None
told_in (Unlink r q) = None
told_in (Arm r q) = None
told_in (Disarm r label) = None
told_in (IfCancel r label) = None
told_in (Start r) = None
told_in (Take r label) = None
told_in (Begin r) = None
told_in Next = None
told_in (Dequeue r) = None
told_in (Pass r) = Some r
told_in (Call r f) = Some r
told_in (Complete r status) = None
told_in (IfPending r label) = None
told_in (Ret form) = None

abbrev pub operand_of : Option Instr → Option ℕ
operand_of None = None
operand_of (Some i) = told_in i

abbrev pub answered_in : Activation → Status → Option ℕ → Activation
answered_in a status None = a
answered_in a status (Some r) = with_register a r (StatusValue status)

abbrev pub answered : Set → Activation → Status → Activation
answered set a status =
    answered_in a status (operand_of (instruction_at set a.driver a.routine (a.position - 1)))

abbrev pub top_of : List Frame → Option Frame
top_of frames = slice_get frames (length frames - 1)

abbrev pub told_top : Set → List Frame → Status → Option Frame → List Frame
told_top set below status None = below
told_top set below status (Some (Walk n)) = below
told_top set below status (Some (CancelFrame c)) = below
told_top set below status (Some (Routine a)) =
    take (length below - 1) below ++ Routine (answered set a status) ∷ []

abbrev pub told_to : Set → List Frame → Option Status → List Frame
told_to set below None = below
told_to set below (Some status) = told_top set below status (top_of below)

-- the frames that stay below the one that ran
abbrev pub kept_below : List Frame → Bool → List Frame
kept_below below taken = if taken then take (length below - 1) below else below
