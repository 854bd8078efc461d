-- What a step of a thread does to a world whose registers hold words. It is the step on slots where
-- each operand is read as a word: nothing asks whether it is a number, a status or a key. Where a
-- register has nothing from then on, it is left as it is.
use Rattle.std.specs.Prelude.{ℕ, ◌+◌, ◌-◌, ◌%◌, ◌^◌, ◌&&◌, Bool, true, false, List, [], ◌∷◌, ◌++◌, length, take, Option, None, Some, is_none, nat_eq, nat_lt, slice_get, slice_index_or, slice_set, if◌then◌else◌}
use Rattle.model.specs.declared.event.Lock.{Lock}
use Rattle.model.specs.declared.event.Lock.TheVariants.{SystemCancel}
use Rattle.model.specs.declared.event.Reply.{Reply}
use Rattle.model.specs.declared.event.Reply.TheVariants.{Stepped, Topped, Waited, Idle, Refused}
use Rattle.model.specs.declared.instr.Field.{Field}
use Rattle.model.specs.declared.instr.Instr.{Instr}
use Rattle.model.specs.declared.instr.Instr.TheVariants.{Const, Move, Clear, Add, Subtract, JumpIfZero, JumpIfLess, Jump, Loop, End, Load, Store, LoadPaged, StorePaged, Get, Put, Mark, Acquire, Release, AcquireCancel, ReleaseCancel, Insert, Remove, Unlink, Arm, Disarm, IfCancel, Start, Take, Begin, Next, Dequeue, Pass, Call, Complete, IfPending, Ret}
use Rattle.model.specs.declared.instr.Return.{Return}
use Rattle.model.specs.declared.instr.Return.TheVariants.{WithStatus, Lower, Continue, Stop, Void}
use Rattle.model.specs.declared.set.QueueName.TheVariants.{DeviceQueue}
use Rattle.model.specs.declared.status.Status.{Status}
use Rattle.model.specs.declared.world.Armer.{Armer}
use Rattle.model.specs.declared.world.CancelStep.{CancelStep}
use Rattle.model.specs.declared.world.CancelStep.TheVariants.{Acquire as AcquireStep, SetFlag, Exchange}
use Rattle.model.specs.declared.world.Cells.{Cells}
use Rattle.model.specs.declared.world.Completion.{Completion}
use Rattle.model.specs.declared.world.Irql.{Irql}
use Rattle.model.specs.declared.world.Irql.TheVariants.{Passive}
use Rattle.model.specs.declared.world.OpenLoop.{OpenLoop}
use Rattle.model.specs.declared.world.Packet.{Packet}
use Rattle.model.specs.Effect.{routine_of_device, stored, stored_paged}
use Rattle.model.specs.Events.{finished_or}
use Rattle.model.specs.Queues.{StartState, dequeued, inserted, next_started, started, unlinked, with_slot}
use Rattle.model.specs.Set.{Set, cancel_routine_named, has_cancel, instruction_at, lower_of}
use Rattle.model.specs.World.{asked_of, cancelled, carried_up, completion_of, current_location, field_of, left_location, mark_current, moved_up, owner_of, sent_down, shared_with, with_armer, with_info, with_owner}
use Rattle.laws_slots.specs.Slots.{SlotShared, packet_at, slot_queue, slot_start, with_packet_at, with_slot_cells, with_slot_locks, with_slot_queue, with_slot_start, without_packet_at}
use Rattle.laws_slots.specs.SlotStep.{if_numbered}
use Rattle.laws_slots.specs.declared.activation.WordActivation.{WordActivation}
use Rattle.laws_slots.specs.Words.{WordFrame, WordRoutine, WordWalk, WordCancel, WordThread, WordWorld, answered, armer_of, armer_waiting, at_label, completes_with, dispatched, entered, innermost, next, next_disarmed, set_by, spin_lock, status_of_word, turned, with_loops, with_word, word}

-- what a frame's step leaves: the shared part, the frames that stand in place of the one that ran
-- (the lowest first), the reply, whether the frame below is taken away with the one that ran, and
-- the status that the frame then below is told
pub record WordOutcome : Type 0 where
  pub shared : SlotShared
  pub frames : List WordFrame
  pub reply : Reply
  pub taken_below : Bool
  pub told : Option Status

abbrev pub leaves : SlotShared → List WordFrame → WordOutcome
leaves s frames =
    record { shared = s; frames = frames; reply = Stepped; taken_below = false; told = None }

abbrev pub goes_on : SlotShared → WordActivation → WordOutcome
goes_on s a = leaves s (WordRoutine a ∷ [])

-- a register becomes another word, and a jump is made or not
abbrev pub value_step : SlotShared → WordActivation → ℕ → ℕ → WordOutcome
value_step s a r n = goes_on s (next (with_word a r n))

abbrev pub jump_step : SlotShared → WordActivation → ℕ → Bool → WordOutcome
jump_step s a label jumps = goes_on s (if jumps then at_label a label else next a)

-- sums and differences wrap at 2^64
abbrev pub sum_at : WordActivation → ℕ → ℕ → ℕ
sum_at a r q = (word a r + word a q) % 2 ^ 64

abbrev pub difference_at : WordActivation → ℕ → ℕ → ℕ
difference_at a r q = (word a r + (2 ^ 64 - word a q)) % 2 ^ 64

-- `loop n` and `end`
abbrev pub loop_step : SlotShared → WordActivation → ℕ → WordOutcome
loop_step s a turns =
    goes_on s
    (next (with_loops a (a.loops.items ++ record { start = a.position + 1; turns = turns } ∷ [])))

abbrev pub end_step : SlotShared → WordActivation → Option OpenLoop → WordOutcome
end_step s a None = goes_on s a
end_step s a (Some l) = goes_on s (turned a l)

-- cells
abbrev pub load_step : SlotShared → WordActivation → ℕ → ℕ → Option Cells → WordOutcome
load_step s a r c None = goes_on s a
load_step s a r c (Some cells) = value_step s a r (slice_index_or cells.plain c 0)

abbrev pub load_paged_step : SlotShared → WordActivation → ℕ → ℕ → Option Cells → WordOutcome
load_paged_step s a r c None = goes_on s a
load_paged_step s a r c (Some cells) = value_step s a r (slice_index_or cells.paged c 0)

abbrev pub store_step : SlotShared → WordActivation → ℕ → ℕ → Option Cells → WordOutcome
store_step s a c n None = goes_on s a
store_step s a c n (Some cells) =
    goes_on (with_slot_cells s a.device (stored cells c n)) (next a)

abbrev pub store_paged_step : SlotShared → WordActivation → ℕ → ℕ → Option Cells → WordOutcome
store_paged_step s a c n None = goes_on s a
store_paged_step s a c n (Some cells) =
    goes_on (with_slot_cells s a.device (stored_paged cells c n)) (next a)

-- a lock: a free one becomes the thread's, and it waits for one that has an owner
abbrev pub acquire_step : SlotShared → ℕ → WordActivation → Lock → Option (Option ℕ) → WordOutcome
acquire_step s t a lock None = goes_on s a
acquire_step s t a lock (Some None) =
    goes_on (with_slot_locks s (with_owner s.locks lock (Some t))) (next a)
acquire_step s t a lock (Some (Some owner)) = record (goes_on s a) { reply = Waited }

abbrev pub release_step : SlotShared → WordActivation → Lock → WordOutcome
release_step s a lock = goes_on (with_slot_locks s (with_owner s.locks lock None)) (next a)

-- a packet is looked at, or it is changed in its slot
abbrev pub get_step : SlotShared → WordActivation → ℕ → Field → Option Packet → WordOutcome
get_step s a r field None = goes_on s a
get_step s a r field (Some p) = value_step s a r (field_of p field)

abbrev pub put_step : SlotShared → WordActivation → ℕ → ℕ → Option Packet → WordOutcome
put_step s a k info None = goes_on s a
put_step s a k info (Some p) = goes_on (with_packet_at s k (with_info p info)) (next a)

abbrev pub mark_step : SlotShared → WordActivation → ℕ → Option Packet → WordOutcome
mark_step s a k None = goes_on s a
mark_step s a k (Some p) = goes_on (with_packet_at s k (mark_current p)) (next a)

abbrev pub arm_step : SlotShared → WordActivation → ℕ → ℕ → Option Packet → WordOutcome
arm_step s a q k None = goes_on s a
arm_step s a q k (Some p) =
    goes_on (with_packet_at s k (with_armer p (Some (armer_of a q)))) (next a)

abbrev pub disarm_step : SlotShared → WordActivation → ℕ → ℕ → Option Packet → WordOutcome
disarm_step s a label k None = goes_on s a
disarm_step s a label k (Some p) =
    jump_step (with_packet_at s k (with_armer p None)) a label (is_none p.armer)

abbrev pub ask_step : SlotShared → WordActivation → ℕ → Option Packet → WordOutcome
ask_step s a label None = goes_on s a
ask_step s a label (Some p) = jump_step s a label p.cancel

abbrev pub look_step : SlotShared → WordActivation → ℕ → Option Packet → WordOutcome
look_step s a label None = goes_on s a
look_step s a label (Some p) = jump_step s a label p.pending_returned

-- queues
abbrev pub insert_step : SlotShared → WordActivation → ℕ → ℕ → Option (List ℕ) → WordOutcome
insert_step s a q k None = goes_on s a
insert_step s a q k (Some entries) =
    goes_on (with_slot_queue s a.device q (inserted entries k)) (next a)

abbrev pub remove_step : SlotShared → WordActivation → ℕ → ℕ → ℕ → Option (List ℕ) → WordOutcome
remove_step s a r q label None = goes_on s a
remove_step s a r q label (Some []) = goes_on s (at_label a label)
remove_step s a r q label (Some (k ∷ entries)) =
    value_step (with_slot_queue s a.device q entries) a r k

abbrev pub unlink_step : SlotShared → WordActivation → ℕ → ℕ → Option (List ℕ) → WordOutcome
unlink_step s a q k None = goes_on s a
unlink_step s a q k (Some entries) =
    goes_on (with_slot_queue s a.device q (unlinked entries k)) (next a)

-- what a device has for StartIo. Where the driver has a cancel routine for the device queue, that
-- becomes the cancel routine of a packet which has to wait there
abbrev pub start_waiting_step : SlotShared → WordActivation → ℕ → StartState → Option Packet
    → WordOutcome
start_waiting_step s a k start None = goes_on s a
start_waiting_step s a k start (Some p) =
    goes_on
    (with_slot_start (with_packet_at s k (with_armer p (Some (armer_waiting a)))) a.device
    (started start k)) (next a)

abbrev pub start_packet_step : SlotShared → WordActivation → ℕ → StartState → Bool → WordOutcome
start_packet_step s a k start false =
    goes_on (with_slot_start s a.device (started start k)) (next a)
start_packet_step s a k start true = start_waiting_step s a k start (packet_at s k)

abbrev pub start_step : Set → SlotShared → WordActivation → ℕ → Option StartState → WordOutcome
start_step set s a k None = goes_on s a
start_step set s a k (Some start) =
    start_packet_step s a k start (has_cancel set a.driver DeviceQueue && start.busy)

abbrev pub take_from_step : SlotShared → WordActivation → ℕ → ℕ → StartState → Option ℕ
    → WordOutcome
take_from_step s a r label start None = goes_on s (at_label a label)
take_from_step s a r label start (Some k) =
    value_step (with_slot_start s a.device (with_slot start None)) a r k

abbrev pub take_step : SlotShared → WordActivation → ℕ → ℕ → Option StartState → WordOutcome
take_step s a r label None = goes_on s a
take_step s a r label (Some start) = take_from_step s a r label start start.slot

abbrev pub begin_step : SlotShared → WordActivation → ℕ → Option StartState → WordOutcome
begin_step s a k None = goes_on s a
begin_step s a k (Some start) =
    goes_on (with_slot_start s a.device (with_slot start (Some k))) (next a)

-- where the driver has that cancel routine, a packet which waited has none any more
abbrev pub next_packet_step : SlotShared → WordActivation → StartState → ℕ → Option Packet
    → WordOutcome
next_packet_step s a start k None = goes_on s a
next_packet_step s a start k (Some p) =
    goes_on
    (with_slot_start (with_packet_at s k (with_armer p None)) a.device (next_started start))
    (next a)

abbrev pub next_waiting_step : SlotShared → WordActivation → StartState → Option ℕ → WordOutcome
next_waiting_step s a start None =
    goes_on (with_slot_start s a.device (next_started start)) (next a)
next_waiting_step s a start (Some k) = next_packet_step s a start k (packet_at s k)

abbrev pub next_step : Set → SlotShared → WordActivation → Option StartState → WordOutcome
next_step set s a None = goes_on s a
next_step set s a (Some start) = next_waiting_step s a start (next_disarmed set a start)

abbrev pub dequeue_step : SlotShared → WordActivation → ℕ → Option StartState → WordOutcome
dequeue_step s a k None = goes_on s a
dequeue_step s a k (Some start) = goes_on (with_slot_start s a.device (dequeued start k)) (next a)

-- the I/O manager takes a packet that is completed
abbrev pub complete_step : SlotShared → WordActivation → Status → ℕ → Option Packet → WordOutcome
complete_step s a status k None = goes_on s a
complete_step s a status k (Some p) =
    leaves (with_packet_at s k (record p { status = status }))
    (WordRoutine (next a) ∷ WordWalk k ∷ [])

-- the lower driver is asked, in the caller's location or in one of its own
abbrev pub asks_step : Set → WordActivation → ℕ → Packet → ℕ → List WordFrame
asks_step set a lower p k =
    WordRoutine (next a)
    ∷ WordRoutine
    (dispatched set lower (slice_get set.devices lower) (asked_of (current_location p)) k)
    ∷ []

abbrev pub pass_step : Set → SlotShared → WordActivation → ℕ → Option ℕ → Option Packet
    → WordOutcome
pass_step set s a k None p = goes_on s a
pass_step set s a k (Some lower) None = goes_on s a
pass_step set s a k (Some lower) (Some p) =
    leaves (with_packet_at s k (shared_with p lower)) (asks_step set a lower p k)

abbrev pub call_step : Set → SlotShared → WordActivation → Option ℕ → ℕ → Option ℕ → Option Packet
    → WordOutcome
call_step set s a f k None p = goes_on s a
call_step set s a f k (Some lower) None = goes_on s a
call_step set s a f k (Some lower) (Some p) =
    leaves (with_packet_at s k (sent_down p lower (set_by a f))) (asks_step set a lower p k)

-- the frame is gone: it returns a status, lets a completion go on, stops it, or returns nothing
abbrev pub is_walk : Option WordFrame → Bool
is_walk None = false
is_walk (Some (WordRoutine a)) = false
is_walk (Some (WordWalk k)) = true
is_walk (Some (WordCancel k n step)) = false

abbrev pub return_step : SlotShared → WordActivation → Option WordFrame → Return → WordOutcome
return_step s a under (WithStatus status) = record (leaves s []) { told = Some status }
return_step s a under (Lower r) =
    record (leaves s []) { told = Some (status_of_word (word a r)) }
return_step s a under Continue = leaves s []
return_step s a under Stop = record (leaves s []) { taken_below = is_walk under }
return_step s a under Void = leaves s []

-- the instruction at the routine's position, on a thread, over a frame or none
abbrev pub instruction_step : Set → SlotShared → ℕ → Option WordFrame → WordActivation → Instr
    → WordOutcome
instruction_step set s t under a (Const r n) = value_step s a r n
instruction_step set s t under a (Move r q) = value_step s a r (word a q)
instruction_step set s t under a (Clear r) = goes_on s (next a)
instruction_step set s t under a (Add r q) = value_step s a r (sum_at a r q)
instruction_step set s t under a (Subtract r q) = value_step s a r (difference_at a r q)
instruction_step set s t under a (JumpIfZero r label) =
    jump_step s a label (nat_eq (word a r) 0)
instruction_step set s t under a (JumpIfLess r q label) =
    jump_step s a label (nat_lt (word a r) (word a q))
instruction_step set s t under a (Jump label) = goes_on s (at_label a label)
instruction_step set s t under a (Loop turns) = loop_step s a turns
instruction_step set s t under a End = end_step s a (innermost a)
instruction_step set s t under a (Load r c) = load_step s a r c (slice_get s.cells a.device)
instruction_step set s t under a (Store c r) =
    store_step s a c (word a r) (slice_get s.cells a.device)
instruction_step set s t under a (LoadPaged r c) =
    load_paged_step s a r c (slice_get s.cells a.device)
instruction_step set s t under a (StorePaged c r) =
    store_paged_step s a c (word a r) (slice_get s.cells a.device)
instruction_step set s t under a (Get r q field) =
    get_step s a r field (packet_at s (word a q))
instruction_step set s t under a (Put q r) =
    put_step s a (word a q) (word a r) (packet_at s (word a q))
instruction_step set s t under a (Mark r) = mark_step s a (word a r) (packet_at s (word a r))
instruction_step set s t under a (Acquire lock) =
    acquire_step s t a (spin_lock a lock) (owner_of s.locks (spin_lock a lock))
instruction_step set s t under a (Release lock) = release_step s a (spin_lock a lock)
instruction_step set s t under a AcquireCancel =
    acquire_step s t a SystemCancel (owner_of s.locks SystemCancel)
instruction_step set s t under a ReleaseCancel = release_step s a SystemCancel
instruction_step set s t under a (Insert r q) =
    insert_step s a q (word a r) (slot_queue s a.device q)
instruction_step set s t under a (Remove r q label) =
    remove_step s a r q label (slot_queue s a.device q)
instruction_step set s t under a (Unlink r q) =
    unlink_step s a q (word a r) (slot_queue s a.device q)
instruction_step set s t under a (Arm r q) =
    arm_step s a q (word a r) (packet_at s (word a r))
instruction_step set s t under a (Disarm r label) =
    disarm_step s a label (word a r) (packet_at s (word a r))
instruction_step set s t under a (IfCancel r label) =
    ask_step s a label (packet_at s (word a r))
instruction_step set s t under a (Start r) =
    start_step set s a (word a r) (slot_start s a.device)
instruction_step set s t under a (Take r label) = take_step s a r label (slot_start s a.device)
instruction_step set s t under a (Begin r) =
    begin_step s a (word a r) (slot_start s a.device)
instruction_step set s t under a Next = next_step set s a (slot_start s a.device)
instruction_step set s t under a (Dequeue r) =
    dequeue_step s a (word a r) (slot_start s a.device)
instruction_step set s t under a (Pass r) =
    pass_step set s a (word a r) (lower_of set a.device) (packet_at s (word a r))
instruction_step set s t under a (Call r f) =
    call_step set s a f (word a r) (lower_of set a.device) (packet_at s (word a r))
instruction_step set s t under a (Complete r status) =
    complete_step s a status (word a r) (packet_at s (word a r))
instruction_step set s t under a (IfPending r label) =
    look_step s a label (packet_at s (word a r))
instruction_step set s t under a (Ret form) = return_step s a under form

abbrev pub routine_step : Set → SlotShared → ℕ → Option WordFrame → WordActivation → Option Instr
    → WordOutcome
routine_step set s t under a None = goes_on s a
routine_step set s t under a (Some i) = instruction_step set s t under a i

-- the I/O manager completes the packet of a key: completion leaves the current location
abbrev pub walk_up_step : SlotShared → ℕ → Packet → WordOutcome
walk_up_step s k p = leaves (with_packet_at s k (carried_up p)) (WordWalk k ∷ [])

abbrev pub walk_out_step : SlotShared → ℕ → Packet → WordOutcome
walk_out_step s k p =
    record (leaves (without_packet_at s k) []) { reply = Topped p.number p.status p.info }

abbrev pub walk_from_step : Set → SlotShared → ℕ → Packet → Option Completion → WordOutcome
walk_from_step set s k p (Some c) =
    leaves (with_packet_at s k (moved_up p))
    (WordWalk k ∷ WordRoutine (completes_with set c k) ∷ [])
walk_from_step set s k p None =
    if nat_lt 1 p.depth then walk_up_step s k p else walk_out_step s k p

abbrev pub walk_step : Set → SlotShared → ℕ → Option Packet → WordOutcome
walk_step set s k None = leaves s []
walk_step set s k (Some p) =
    walk_from_step set s k (left_location p) (completion_of (current_location p))

-- the I/O manager cancels a packet: it looks for it at its key by its number, and where another one
-- or none is there the packet has topped out
abbrev pub cancel_acquires_step : SlotShared → ℕ → ℕ → ℕ → Option ℕ → WordOutcome
cancel_acquires_step s t k n None =
    leaves (with_slot_locks s (with_owner s.locks SystemCancel (Some t)))
    (WordCancel k n SetFlag ∷ [])
cancel_acquires_step s t k n (Some owner) =
    record (leaves s (WordCancel k n AcquireStep ∷ [])) { reply = Waited }

abbrev pub cancel_ends_step : SlotShared → WordOutcome
cancel_ends_step s = leaves (with_slot_locks s (with_owner s.locks SystemCancel None)) []

abbrev pub cancel_flags_step : SlotShared → ℕ → ℕ → Option Packet → WordOutcome
cancel_flags_step s k n None = cancel_ends_step s
cancel_flags_step s k n (Some p) =
    leaves (with_packet_at s k (cancelled p)) (WordCancel k n Exchange ∷ [])

abbrev pub cancel_calls_step : SlotShared → ℕ → Armer → ℕ → Option ℕ → WordOutcome
cancel_calls_step s k armer driver None = cancel_ends_step s
cancel_calls_step s k armer driver (Some routine) =
    leaves s (WordRoutine (entered driver routine armer.device k) ∷ [])

abbrev pub cancel_armed_step : Set → SlotShared → ℕ → Option Armer → WordOutcome
cancel_armed_step set s k None = cancel_ends_step s
cancel_armed_step set s k (Some armer) =
    let driver : ℕ = routine_of_device (slice_get set.devices armer.device) in
    cancel_calls_step s k armer driver (cancel_routine_named set driver armer.queue)

abbrev pub cancel_exchanges_step : Set → SlotShared → ℕ → Option Packet → WordOutcome
cancel_exchanges_step set s k None = cancel_ends_step s
cancel_exchanges_step set s k (Some p) =
    cancel_armed_step set (with_packet_at s k (with_armer p None)) k p.armer

abbrev pub cancel_step : Set → SlotShared → ℕ → ℕ → ℕ → CancelStep → WordOutcome
cancel_step set s t k n AcquireStep = cancel_acquires_step s t k n s.locks.system_cancel
cancel_step set s t k n SetFlag = cancel_flags_step s k n (if_numbered (packet_at s k) n)
cancel_step set s t k n Exchange = cancel_exchanges_step set s k (if_numbered (packet_at s k) n)

-- one step of a thread's top frame, over another frame or none
abbrev pub frame_step : Set → SlotShared → ℕ → Option WordFrame → WordFrame → WordOutcome
frame_step set s t under (WordRoutine a) =
    routine_step set s t under a (instruction_at set a.driver a.routine a.position)
frame_step set s t under (WordWalk k) = walk_step set s k (packet_at s k)
frame_step set s t under (WordCancel k n step) = cancel_step set s t k n step

-- the frames below the one that ran: the one below it may be gone too, and the top one is told what
-- a lower driver returned
abbrev pub top_frame : List WordFrame → Option WordFrame
top_frame frames = slice_get frames (length frames - 1)

abbrev pub told_frame : Set → List WordFrame → Status → Option WordFrame → List WordFrame
told_frame set below status None = below
told_frame set below status (Some (WordWalk k)) = below
told_frame set below status (Some (WordCancel k n step)) = below
told_frame set below status (Some (WordRoutine a)) =
    take (length below - 1) below ++ WordRoutine (answered set a status) ∷ []

abbrev pub told_frames : Set → List WordFrame → Option Status → List WordFrame
told_frames set below None = below
told_frames set below (Some status) = told_frame set below status (top_frame below)

abbrev pub frames_below : List WordFrame → Bool → List WordFrame
frames_below below taken = if taken then take (length below - 1) below else below

abbrev pub frames_after : Set → List WordFrame → WordOutcome → List WordFrame
frames_after set below o = told_frames set (frames_below below o.taken_below) o.told ++ o.frames

-- the world and the reply after a step
pub record WordAnswer : Type 0 where
  pub world : WordWorld
  pub reply : Reply

abbrev pub stays : WordWorld → Reply → WordAnswer
stays v reply = record { world = v; reply = reply }

-- a step that leaves its thread without frames has finished it: the thread is idle then, at
-- PASSIVE_LEVEL
abbrev pub level_over : Irql → List WordFrame → Irql
level_over root [] = Passive
level_over root (f ∷ frames) = root

abbrev pub ends_or : List WordFrame → Reply → Reply
ends_or [] reply = finished_or [] reply
ends_or (f ∷ frames) reply = reply

abbrev pub settled_step : Set → WordWorld → ℕ → WordThread → List WordFrame → WordOutcome
    → WordAnswer
settled_step set v t thread below o =
    let frames : List WordFrame = frames_after set below o in
    record {
      world =
          record {
            threads =
                slice_set v.threads t
                (record { root = level_over thread.root frames; frames = frames });
            shared = o.shared;
          };
      reply = ends_or frames o.reply;
    }

abbrev pub top_step : Set → WordWorld → ℕ → WordThread → List WordFrame → Option WordFrame
    → WordAnswer
top_step set v t thread below None = stays v Idle
top_step set v t thread below (Some f) =
    settled_step set v t thread below (frame_step set v.shared t (top_frame below) f)

abbrev pub thread_step : Set → WordWorld → ℕ → Option WordThread → WordAnswer
thread_step set v t None = stays v Refused
thread_step set v t (Some thread) =
    top_step set v t thread (take (length thread.frames - 1) thread.frames)
    (slice_get thread.frames (length thread.frames - 1))

-- one step of a thread
abbrev pub word_step : Set → WordWorld → ℕ → WordAnswer
word_step set v t = thread_step set v t (slice_get v.threads t)
