-- What a step of a thread does to a world of slots. Nothing here tells what is wrong: no test is
-- made of what a register holds, of whether the thread owns a lock that it takes or gives back, of
-- whether a packet is live, or of how much room a list, a stack or a packet's locations have. Where
-- a look-up finds nothing a step does nothing: in runs of accepted sets it finds what it looks for.
use Rattle.std.specs.Prelude.{ℕ, ◌+◌, ◌-◌, ◌%◌, ◌^◌, ◌&&◌, Bool, true, false, List, [], ◌∷◌, ◌++◌, length, take, Option, None, Some, is_none, nat_eq, nat_lt, slice_get, slice_index_or, slice_set, if◌then◌else◌}
use Rattle.model.specs.declared.event.Lock.{Lock}
use Rattle.model.specs.declared.event.Lock.TheVariants.{SystemCancel}
use Rattle.model.specs.declared.event.Reply.{Reply}
use Rattle.model.specs.declared.event.Reply.TheVariants.{Stepped, Topped, Waited, Idle, Refused}
use Rattle.model.specs.declared.instr.Field.{Field}
use Rattle.model.specs.declared.instr.Instr.{Instr}
use Rattle.model.specs.declared.instr.Instr.TheVariants.{Const, Move, Clear, Add, Subtract, JumpIfZero, JumpIfLess, Jump, Loop, End, Load, Store, LoadPaged, StorePaged, Get, Put, Mark, Acquire, Release, AcquireCancel, ReleaseCancel, Insert, Remove, Unlink, Arm, Disarm, IfCancel, Start, Take, Begin, Next, Dequeue, Pass, Call, Complete, IfPending, Ret}
use Rattle.model.specs.declared.instr.Return.{Return}
use Rattle.model.specs.declared.instr.Return.TheVariants.{WithStatus, Lower, Continue, Stop, Void}
use Rattle.model.specs.declared.set.QueueName.TheVariants.{DeviceQueue}
use Rattle.model.specs.declared.status.Status.{Status}
use Rattle.model.specs.declared.status.Status.TheVariants.{Success}
use Rattle.model.specs.declared.world.Activation.{Activation}
use Rattle.model.specs.declared.world.Armer.{Armer}
use Rattle.model.specs.declared.world.CancelStep.{CancelStep}
use Rattle.model.specs.declared.world.CancelStep.TheVariants.{Acquire as AcquireStep, SetFlag, Exchange}
use Rattle.model.specs.declared.world.Cells.{Cells}
use Rattle.model.specs.declared.world.Completion.{Completion}
use Rattle.model.specs.declared.world.Irql.{Irql}
use Rattle.model.specs.declared.world.Irql.TheVariants.{Passive}
use Rattle.model.specs.declared.world.OpenLoop.{OpenLoop}
use Rattle.model.specs.declared.world.Packet.{Packet}
use Rattle.model.specs.declared.world.Value.{Value}
use Rattle.model.specs.declared.world.Value.TheVariants.{Blank, Num, Ref, Status as StatusValue}
use Rattle.model.specs.Effect.{answered, armer_of, armer_waiting, completes_with, dispatched, next_disarmed, routine_of_device, set_by, spin_lock, stored, stored_paged, turned}
use Rattle.model.specs.Events.{finished_or}
use Rattle.model.specs.Queues.{StartState, dequeued, inserted, next_started, started, unlinked, with_slot}
use Rattle.model.specs.Set.{Set, cancel_routine_named, has_cancel, instruction_at, lower_of}
use Rattle.model.specs.World.{asked_of, at_label, cancelled, carried_up, completion_of, current_location, entered, field_of, innermost, left_location, mark_current, moved_up, next, owner_of, register, sent_down, shared_with, with_armer, with_info, with_loops, with_owner, with_register}
use Rattle.laws_slots.specs.Slots.{SlotFrame, SlotRoutine, SlotWalk, SlotCancel, SlotShared, SlotThread, SlotWorld, packet_at, slot_queue, slot_start, with_packet_at, with_slot_cells, with_slot_locks, with_slot_queue, with_slot_start, without_packet_at}

-- what a frame's step leaves: the shared part, the frames that stand in place of the one that ran
-- (the lowest first), the reply, whether the frame below is taken away with the one that ran, and
-- the status that the frame then below is told
pub record SlotOutcome : Type 0 where
  pub shared : SlotShared
  pub frames : List SlotFrame
  pub reply : Reply
  pub taken_below : Bool
  pub told : Option Status

abbrev pub leaves : SlotShared → List SlotFrame → SlotOutcome
leaves s frames =
    record { shared = s; frames = frames; reply = Stepped; taken_below = false; told = None }

abbrev pub goes_on : SlotShared → Activation → SlotOutcome
goes_on s a = leaves s (SlotRoutine a ∷ [])

-- a register read as a number, as a status and as a key
abbrev pub number_read : Value → ℕ
number_read (Num n) = n
number_read Blank = 0
number_read (Ref k) = 0
number_read (StatusValue status) = 0

abbrev pub status_read : Value → Status
status_read (StatusValue status) = status
status_read Blank = Success
status_read (Num n) = Success
status_read (Ref k) = Success

abbrev pub key_read : Value → ℕ
key_read (Ref k) = k
key_read Blank = 0
key_read (Num n) = 0
key_read (StatusValue status) = 0

abbrev pub number_at : Activation → ℕ → ℕ
number_at a r = number_read (register a r)

abbrev pub key_at : Activation → ℕ → ℕ
key_at a r = key_read (register a r)

-- a register becomes another value, and a jump is made or not
abbrev pub value_step : SlotShared → Activation → ℕ → Value → SlotOutcome
value_step s a r v = goes_on s (next (with_register a r v))

abbrev pub jump_step : SlotShared → Activation → ℕ → Bool → SlotOutcome
jump_step s a label jumps = goes_on s (if jumps then at_label a label else next a)

-- sums and differences wrap at 2^64
abbrev pub sum_at : Activation → ℕ → ℕ → ℕ
sum_at a r q = (number_at a r + number_at a q) % 2 ^ 64

abbrev pub difference_at : Activation → ℕ → ℕ → ℕ
difference_at a r q = (number_at a r + (2 ^ 64 - number_at a q)) % 2 ^ 64

-- `loop n` and `end`
abbrev pub loop_step : SlotShared → Activation → ℕ → SlotOutcome
loop_step s a turns =
    goes_on s
    (next (with_loops a (a.loops.items ++ record { start = a.position + 1; turns = turns } ∷ [])))

abbrev pub end_step : SlotShared → Activation → Option OpenLoop → SlotOutcome
end_step s a None = goes_on s a
end_step s a (Some l) = goes_on s (turned a l)

-- cells
abbrev pub load_step : SlotShared → Activation → ℕ → ℕ → Option Cells → SlotOutcome
load_step s a r c None = goes_on s a
load_step s a r c (Some cells) = value_step s a r (Num (slice_index_or cells.plain c 0))

abbrev pub load_paged_step : SlotShared → Activation → ℕ → ℕ → Option Cells → SlotOutcome
load_paged_step s a r c None = goes_on s a
load_paged_step s a r c (Some cells) = value_step s a r (Num (slice_index_or cells.paged c 0))

abbrev pub store_step : SlotShared → Activation → ℕ → ℕ → Option Cells → SlotOutcome
store_step s a c n None = goes_on s a
store_step s a c n (Some cells) =
    goes_on (with_slot_cells s a.device (stored cells c n)) (next a)

abbrev pub store_paged_step : SlotShared → Activation → ℕ → ℕ → Option Cells → SlotOutcome
store_paged_step s a c n None = goes_on s a
store_paged_step s a c n (Some cells) =
    goes_on (with_slot_cells s a.device (stored_paged cells c n)) (next a)

-- a lock: a free one becomes the thread's, and it waits for one that has an owner
abbrev pub acquire_step : SlotShared → ℕ → Activation → Lock → Option (Option ℕ) → SlotOutcome
acquire_step s t a lock None = goes_on s a
acquire_step s t a lock (Some None) =
    goes_on (with_slot_locks s (with_owner s.locks lock (Some t))) (next a)
acquire_step s t a lock (Some (Some owner)) = record (goes_on s a) { reply = Waited }

abbrev pub release_step : SlotShared → Activation → Lock → SlotOutcome
release_step s a lock = goes_on (with_slot_locks s (with_owner s.locks lock None)) (next a)

-- a packet is looked at, or it is changed in its slot
abbrev pub get_step : SlotShared → Activation → ℕ → Field → Option Packet → SlotOutcome
get_step s a r field None = goes_on s a
get_step s a r field (Some p) = value_step s a r (Num (field_of p field))

abbrev pub put_step : SlotShared → Activation → ℕ → ℕ → Option Packet → SlotOutcome
put_step s a k info None = goes_on s a
put_step s a k info (Some p) = goes_on (with_packet_at s k (with_info p info)) (next a)

abbrev pub mark_step : SlotShared → Activation → ℕ → Option Packet → SlotOutcome
mark_step s a k None = goes_on s a
mark_step s a k (Some p) = goes_on (with_packet_at s k (mark_current p)) (next a)

abbrev pub arm_step : SlotShared → Activation → ℕ → ℕ → Option Packet → SlotOutcome
arm_step s a q k None = goes_on s a
arm_step s a q k (Some p) =
    goes_on (with_packet_at s k (with_armer p (Some (armer_of a q)))) (next a)

abbrev pub disarm_step : SlotShared → Activation → ℕ → ℕ → Option Packet → SlotOutcome
disarm_step s a label k None = goes_on s a
disarm_step s a label k (Some p) =
    jump_step (with_packet_at s k (with_armer p None)) a label (is_none p.armer)

abbrev pub ask_step : SlotShared → Activation → ℕ → Option Packet → SlotOutcome
ask_step s a label None = goes_on s a
ask_step s a label (Some p) = jump_step s a label p.cancel

abbrev pub look_step : SlotShared → Activation → ℕ → Option Packet → SlotOutcome
look_step s a label None = goes_on s a
look_step s a label (Some p) = jump_step s a label p.pending_returned

-- queues
abbrev pub insert_step : SlotShared → Activation → ℕ → ℕ → Option (List ℕ) → SlotOutcome
insert_step s a q k None = goes_on s a
insert_step s a q k (Some entries) =
    goes_on (with_slot_queue s a.device q (inserted entries k)) (next a)

abbrev pub remove_step : SlotShared → Activation → ℕ → ℕ → ℕ → Option (List ℕ) → SlotOutcome
remove_step s a r q label None = goes_on s a
remove_step s a r q label (Some []) = goes_on s (at_label a label)
remove_step s a r q label (Some (k ∷ entries)) =
    value_step (with_slot_queue s a.device q entries) a r (Ref k)

abbrev pub unlink_step : SlotShared → Activation → ℕ → ℕ → Option (List ℕ) → SlotOutcome
unlink_step s a q k None = goes_on s a
unlink_step s a q k (Some entries) =
    goes_on (with_slot_queue s a.device q (unlinked entries k)) (next a)

-- what a device has for StartIo. Where the driver has a cancel routine for the device queue, that
-- becomes the cancel routine of a packet which has to wait there
abbrev pub start_waiting_step : SlotShared → Activation → ℕ → StartState → Option Packet
    → SlotOutcome
start_waiting_step s a k start None = goes_on s a
start_waiting_step s a k start (Some p) =
    goes_on
    (with_slot_start (with_packet_at s k (with_armer p (Some (armer_waiting a)))) a.device
    (started start k)) (next a)

abbrev pub start_packet_step : SlotShared → Activation → ℕ → StartState → Bool → SlotOutcome
start_packet_step s a k start false =
    goes_on (with_slot_start s a.device (started start k)) (next a)
start_packet_step s a k start true = start_waiting_step s a k start (packet_at s k)

abbrev pub start_step : Set → SlotShared → Activation → ℕ → Option StartState → SlotOutcome
start_step set s a k None = goes_on s a
start_step set s a k (Some start) =
    start_packet_step s a k start (has_cancel set a.driver DeviceQueue && start.busy)

abbrev pub take_from_step : SlotShared → Activation → ℕ → ℕ → StartState → Option ℕ → SlotOutcome
take_from_step s a r label start None = goes_on s (at_label a label)
take_from_step s a r label start (Some k) =
    value_step (with_slot_start s a.device (with_slot start None)) a r (Ref k)

abbrev pub take_step : SlotShared → Activation → ℕ → ℕ → Option StartState → SlotOutcome
take_step s a r label None = goes_on s a
take_step s a r label (Some start) = take_from_step s a r label start start.slot

abbrev pub begin_step : SlotShared → Activation → ℕ → Option StartState → SlotOutcome
begin_step s a k None = goes_on s a
begin_step s a k (Some start) =
    goes_on (with_slot_start s a.device (with_slot start (Some k))) (next a)

-- where the driver has that cancel routine, a packet which waited has none any more
abbrev pub next_packet_step : SlotShared → Activation → StartState → ℕ → Option Packet → SlotOutcome
next_packet_step s a start k None = goes_on s a
next_packet_step s a start k (Some p) =
    goes_on
    (with_slot_start (with_packet_at s k (with_armer p None)) a.device (next_started start))
    (next a)

abbrev pub next_waiting_step : SlotShared → Activation → StartState → Option ℕ → SlotOutcome
next_waiting_step s a start None =
    goes_on (with_slot_start s a.device (next_started start)) (next a)
next_waiting_step s a start (Some k) = next_packet_step s a start k (packet_at s k)

abbrev pub next_step : Set → SlotShared → Activation → Option StartState → SlotOutcome
next_step set s a None = goes_on s a
next_step set s a (Some start) = next_waiting_step s a start (next_disarmed set a start)

abbrev pub dequeue_step : SlotShared → Activation → ℕ → Option StartState → SlotOutcome
dequeue_step s a k None = goes_on s a
dequeue_step s a k (Some start) = goes_on (with_slot_start s a.device (dequeued start k)) (next a)

-- the I/O manager takes a packet that is completed
abbrev pub complete_step : SlotShared → Activation → Status → ℕ → Option Packet → SlotOutcome
complete_step s a status k None = goes_on s a
complete_step s a status k (Some p) =
    leaves (with_packet_at s k (record p { status = status }))
    (SlotRoutine (next a) ∷ SlotWalk k ∷ [])

-- the lower driver is asked, in the caller's location or in one of its own
abbrev pub asks_step : Set → Activation → ℕ → Packet → ℕ → List SlotFrame
asks_step set a lower p k =
    SlotRoutine (next a)
    ∷ SlotRoutine
    (dispatched set lower (slice_get set.devices lower) (asked_of (current_location p)) k)
    ∷ []

abbrev pub pass_step : Set → SlotShared → Activation → ℕ → Option ℕ → Option Packet → SlotOutcome
pass_step set s a k None p = goes_on s a
pass_step set s a k (Some lower) None = goes_on s a
pass_step set s a k (Some lower) (Some p) =
    leaves (with_packet_at s k (shared_with p lower)) (asks_step set a lower p k)

abbrev pub call_step : Set → SlotShared → Activation → Option ℕ → ℕ → Option ℕ → Option Packet
    → SlotOutcome
call_step set s a f k None p = goes_on s a
call_step set s a f k (Some lower) None = goes_on s a
call_step set s a f k (Some lower) (Some p) =
    leaves (with_packet_at s k (sent_down p lower (set_by a f))) (asks_step set a lower p k)

-- the frame is gone: it returns a status, lets a completion go on, stops it, or returns nothing
abbrev pub is_slot_walk : Option SlotFrame → Bool
is_slot_walk None = false
is_slot_walk (Some (SlotRoutine a)) = false
is_slot_walk (Some (SlotWalk k)) = true
is_slot_walk (Some (SlotCancel k n step)) = false

abbrev pub return_step : SlotShared → Activation → Option SlotFrame → Return → SlotOutcome
return_step s a under (WithStatus status) = record (leaves s []) { told = Some status }
return_step s a under (Lower r) =
    record (leaves s []) { told = Some (status_read (register a r)) }
return_step s a under Continue = leaves s []
return_step s a under Stop = record (leaves s []) { taken_below = is_slot_walk under }
return_step s a under Void = leaves s []

-- the instruction at the routine's position, on a thread, over a frame or none
abbrev pub instruction_step : Set → SlotShared → ℕ → Option SlotFrame → Activation → Instr
    → SlotOutcome
instruction_step set s t under a (Const r n) = value_step s a r (Num n)
instruction_step set s t under a (Move r q) = value_step s a r (register a q)
instruction_step set s t under a (Clear r) = value_step s a r Blank
instruction_step set s t under a (Add r q) = value_step s a r (Num (sum_at a r q))
instruction_step set s t under a (Subtract r q) = value_step s a r (Num (difference_at a r q))
instruction_step set s t under a (JumpIfZero r label) =
    jump_step s a label (nat_eq (number_at a r) 0)
instruction_step set s t under a (JumpIfLess r q label) =
    jump_step s a label (nat_lt (number_at a r) (number_at a q))
instruction_step set s t under a (Jump label) = goes_on s (at_label a label)
instruction_step set s t under a (Loop turns) = loop_step s a turns
instruction_step set s t under a End = end_step s a (innermost a)
instruction_step set s t under a (Load r c) = load_step s a r c (slice_get s.cells a.device)
instruction_step set s t under a (Store c r) =
    store_step s a c (number_at a r) (slice_get s.cells a.device)
instruction_step set s t under a (LoadPaged r c) =
    load_paged_step s a r c (slice_get s.cells a.device)
instruction_step set s t under a (StorePaged c r) =
    store_paged_step s a c (number_at a r) (slice_get s.cells a.device)
instruction_step set s t under a (Get r q field) =
    get_step s a r field (packet_at s (key_at a q))
instruction_step set s t under a (Put q r) =
    put_step s a (key_at a q) (number_at a r) (packet_at s (key_at a q))
instruction_step set s t under a (Mark r) = mark_step s a (key_at a r) (packet_at s (key_at a r))
instruction_step set s t under a (Acquire lock) =
    acquire_step s t a (spin_lock a lock) (owner_of s.locks (spin_lock a lock))
instruction_step set s t under a (Release lock) = release_step s a (spin_lock a lock)
instruction_step set s t under a AcquireCancel =
    acquire_step s t a SystemCancel (owner_of s.locks SystemCancel)
instruction_step set s t under a ReleaseCancel = release_step s a SystemCancel
instruction_step set s t under a (Insert r q) =
    insert_step s a q (key_at a r) (slot_queue s a.device q)
instruction_step set s t under a (Remove r q label) =
    remove_step s a r q label (slot_queue s a.device q)
instruction_step set s t under a (Unlink r q) =
    unlink_step s a q (key_at a r) (slot_queue s a.device q)
instruction_step set s t under a (Arm r q) =
    arm_step s a q (key_at a r) (packet_at s (key_at a r))
instruction_step set s t under a (Disarm r label) =
    disarm_step s a label (key_at a r) (packet_at s (key_at a r))
instruction_step set s t under a (IfCancel r label) =
    ask_step s a label (packet_at s (key_at a r))
instruction_step set s t under a (Start r) =
    start_step set s a (key_at a r) (slot_start s a.device)
instruction_step set s t under a (Take r label) = take_step s a r label (slot_start s a.device)
instruction_step set s t under a (Begin r) =
    begin_step s a (key_at a r) (slot_start s a.device)
instruction_step set s t under a Next = next_step set s a (slot_start s a.device)
instruction_step set s t under a (Dequeue r) =
    dequeue_step s a (key_at a r) (slot_start s a.device)
instruction_step set s t under a (Pass r) =
    pass_step set s a (key_at a r) (lower_of set a.device) (packet_at s (key_at a r))
instruction_step set s t under a (Call r f) =
    call_step set s a f (key_at a r) (lower_of set a.device) (packet_at s (key_at a r))
instruction_step set s t under a (Complete r status) =
    complete_step s a status (key_at a r) (packet_at s (key_at a r))
instruction_step set s t under a (IfPending r label) =
    look_step s a label (packet_at s (key_at a r))
instruction_step set s t under a (Ret form) = return_step s a under form

abbrev pub routine_step : Set → SlotShared → ℕ → Option SlotFrame → Activation → Option Instr
    → SlotOutcome
routine_step set s t under a None = goes_on s a
routine_step set s t under a (Some i) = instruction_step set s t under a i

-- the I/O manager completes the packet of a key: completion leaves the current location
abbrev pub walk_up_step : SlotShared → ℕ → Packet → SlotOutcome
walk_up_step s k p = leaves (with_packet_at s k (carried_up p)) (SlotWalk k ∷ [])

abbrev pub walk_out_step : SlotShared → ℕ → Packet → SlotOutcome
walk_out_step s k p =
    record (leaves (without_packet_at s k) []) { reply = Topped p.number p.status p.info }

abbrev pub walk_from_step : Set → SlotShared → ℕ → Packet → Option Completion → SlotOutcome
walk_from_step set s k p (Some c) =
    leaves (with_packet_at s k (moved_up p))
    (SlotWalk k ∷ SlotRoutine (completes_with set c k) ∷ [])
walk_from_step set s k p None =
    if nat_lt 1 p.depth then walk_up_step s k p else walk_out_step s k p

abbrev pub walk_step : Set → SlotShared → ℕ → Option Packet → SlotOutcome
walk_step set s k None = leaves s []
walk_step set s k (Some p) =
    walk_from_step set s k (left_location p) (completion_of (current_location p))

-- the I/O manager cancels a packet: it looks for it at its key by its number, and where another one
-- or none is there the packet has topped out
abbrev pub if_numbered : Option Packet → ℕ → Option Packet
if_numbered None n = None
if_numbered (Some p) n = if nat_eq p.number n then Some p else None

abbrev pub cancel_acquires_step : SlotShared → ℕ → ℕ → ℕ → Option ℕ → SlotOutcome
cancel_acquires_step s t k n None =
    leaves (with_slot_locks s (with_owner s.locks SystemCancel (Some t)))
    (SlotCancel k n SetFlag ∷ [])
cancel_acquires_step s t k n (Some owner) =
    record (leaves s (SlotCancel k n AcquireStep ∷ [])) { reply = Waited }

abbrev pub cancel_ends_step : SlotShared → SlotOutcome
cancel_ends_step s = leaves (with_slot_locks s (with_owner s.locks SystemCancel None)) []

abbrev pub cancel_flags_step : SlotShared → ℕ → ℕ → Option Packet → SlotOutcome
cancel_flags_step s k n None = cancel_ends_step s
cancel_flags_step s k n (Some p) =
    leaves (with_packet_at s k (cancelled p)) (SlotCancel k n Exchange ∷ [])

abbrev pub cancel_calls_step : SlotShared → ℕ → Armer → ℕ → Option ℕ → SlotOutcome
cancel_calls_step s k armer driver None = cancel_ends_step s
cancel_calls_step s k armer driver (Some routine) =
    leaves s (SlotRoutine (entered driver routine armer.device (Ref k)) ∷ [])

abbrev pub cancel_armed_step : Set → SlotShared → ℕ → Option Armer → SlotOutcome
cancel_armed_step set s k None = cancel_ends_step s
cancel_armed_step set s k (Some armer) =
    let driver : ℕ = routine_of_device (slice_get set.devices armer.device) in
    cancel_calls_step s k armer driver (cancel_routine_named set driver armer.queue)

abbrev pub cancel_exchanges_step : Set → SlotShared → ℕ → Option Packet → SlotOutcome
cancel_exchanges_step set s k None = cancel_ends_step s
cancel_exchanges_step set s k (Some p) =
    cancel_armed_step set (with_packet_at s k (with_armer p None)) k p.armer

abbrev pub cancel_step : Set → SlotShared → ℕ → ℕ → ℕ → CancelStep → SlotOutcome
cancel_step set s t k n AcquireStep = cancel_acquires_step s t k n s.locks.system_cancel
cancel_step set s t k n SetFlag = cancel_flags_step s k n (if_numbered (packet_at s k) n)
cancel_step set s t k n Exchange = cancel_exchanges_step set s k (if_numbered (packet_at s k) n)

-- one step of a thread's top frame, over another frame or none
abbrev pub frame_step : Set → SlotShared → ℕ → Option SlotFrame → SlotFrame → SlotOutcome
frame_step set s t under (SlotRoutine a) =
    routine_step set s t under a (instruction_at set a.driver a.routine a.position)
frame_step set s t under (SlotWalk k) = walk_step set s k (packet_at s k)
frame_step set s t under (SlotCancel k n step) = cancel_step set s t k n step

-- the frames below the one that ran: the one below it may be gone too, and the top one is told what
-- a lower driver returned
abbrev pub top_frame : List SlotFrame → Option SlotFrame
top_frame frames = slice_get frames (length frames - 1)

abbrev pub told_frame : Set → List SlotFrame → Status → Option SlotFrame → List SlotFrame
told_frame set below status None = below
told_frame set below status (Some (SlotWalk k)) = below
told_frame set below status (Some (SlotCancel k n step)) = below
told_frame set below status (Some (SlotRoutine a)) =
    take (length below - 1) below ++ SlotRoutine (answered set a status) ∷ []

abbrev pub told_frames : Set → List SlotFrame → Option Status → List SlotFrame
told_frames set below None = below
told_frames set below (Some status) = told_frame set below status (top_frame below)

abbrev pub frames_below : List SlotFrame → Bool → List SlotFrame
frames_below below taken = if taken then take (length below - 1) below else below

abbrev pub frames_after : Set → List SlotFrame → SlotOutcome → List SlotFrame
frames_after set below o = told_frames set (frames_below below o.taken_below) o.told ++ o.frames

-- the world and the reply after a step
pub record SlotAnswer : Type 0 where
  pub world : SlotWorld
  pub reply : Reply

abbrev pub stays : SlotWorld → Reply → SlotAnswer
stays v reply = record { world = v; reply = reply }

-- a step that leaves its thread without frames has finished it: the thread is idle then, at
-- PASSIVE_LEVEL
abbrev pub level_over : Irql → List SlotFrame → Irql
level_over root [] = Passive
level_over root (f ∷ frames) = root

abbrev pub ends_or : List SlotFrame → Reply → Reply
ends_or [] reply = finished_or [] reply
ends_or (f ∷ frames) reply = reply

abbrev pub settled_step : Set → SlotWorld → ℕ → SlotThread → List SlotFrame → SlotOutcome
    → SlotAnswer
settled_step set v t thread below o =
    let frames : List SlotFrame = frames_after set below o in
    record {
      world =
          record {
            threads =
                slice_set v.threads t
                (record { root = level_over thread.root frames; frames = frames });
            shared = o.shared;
          };
      reply = ends_or frames o.reply;
    }

abbrev pub top_step : Set → SlotWorld → ℕ → SlotThread → List SlotFrame → Option SlotFrame
    → SlotAnswer
top_step set v t thread below None = stays v Idle
top_step set v t thread below (Some f) =
    settled_step set v t thread below (frame_step set v.shared t (top_frame below) f)

abbrev pub thread_step : Set → SlotWorld → ℕ → Option SlotThread → SlotAnswer
thread_step set v t None = stays v Refused
thread_step set v t (Some thread) =
    top_step set v t thread (take (length thread.frames - 1) thread.frames)
    (slice_get thread.frames (length thread.frames - 1))

-- one step of a thread
abbrev pub slot_step : Set → SlotWorld → ℕ → SlotAnswer
slot_step set v t = thread_step set v t (slice_get v.threads t)
