-- The shapes of a step: a thread's top frame, over another frame or none, leaves one of these
-- outcomes. Each shape has the instruction, and all that decided it. What a step does to a law is
-- then said once a shape, and an instruction of a known shape costs a law nothing.
use Rattle.laws_runs.proofs.Prelude.{Bool, List, None, Option, Some, [], false, is_none, is_some, length, nat_eq, nat_lt, not, slice_get, slice_set, true, ℕ, ◌&&◌, ◌++◌, ◌+◌, ◌∷◌, ◌≡◌, ◌⊎◌, Acquires, Action, Calls, Completes, Continues, Exchanges, Executes, Lends, Marks, Releases, TopsOut, Touches, TouchesPaged, Ups, Outcome, armer_of, armer_waiting, asks, completes_with, goes_on, goes_on_cancelling, goes_wrong, is_walk, leaves, next_disarmed, returned, routine_of_device, set_by, sort_of_completion, turned, waits, is_completion, is_hold, StartState, dequeued, has_room_for_next, has_room_to_start, inserted, is_full, next_started, started, unlinked, with_slot, Set, cancel_routine_named, cancel_routine_of, has_cancel, instruction_at, label_of, lower_of, sort_of, queue_named, Shared, at_label, cancelled, completed, completion_of, current_location, entered, innermost, is_marked, left_location, mark_current, moved_up, next, number_in, owner_of, packet_in, packet_of, queue_of, register, sent_down, shared_with, start_of, with_armer, with_info, with_locks, with_loops, with_owner, with_packet, with_queue, with_register, with_start, without_packet, Lock, SystemCancel, OfDevice, Topped, Waited, Instr, Arm, Begin, Call, Clear, Complete, Dequeue, Disarm, End, Insert, Loop, Mark, Move, Next, Pass, Put, Remove, Ret, Start, Take, Unlink, Return, Continue, Stop, Void, MAX_LOOPS, DeviceQueue, Cancel, Dispatch, Dpc, Hold, Propagate, StartIo, Status, Activation, Armer, CancelStep, AcquireStep, Exchange, SetFlag, Cells, Completion, Frame, CancelFrame, Routine, Walk, OpenLoop, Packet, Value, Blank, Num, Ref}
use Rattle.model.specs.Action.{Leaves}
use Rattle.model.specs.Effect.{cancel_ends}
use Rattle.laws_runs.proofs.Steps.Words.{Computing, Paging, Looking, Exchanging, Forwarding, work_of, starts_packets, is_touching, goes_next, packet_operand, number_operand, second_operand, keeps_registers, numbered_by, is_of_cells, lock_taken, lock_freed, jumps_on, status_returned, is_form_of}

-- the instruction at an activation's position
abbrev pub Executing : Set → Activation → Instr → Type 0
Executing set a i = instruction_at set a.driver a.routine a.position ≡ Some i

-- a register of an activation refers to a packet that was issued
abbrev pub Reads : Shared → Activation → ℕ → ℕ → Type 0
Reads s a r n = packet_in s (register a r) ≡ Some n

-- why a step is wrong: there is no instruction, or an operand, a loop, a cell, a lock, a queue,
-- what a device has for StartIo, a cancel routine, a device or a form of return that it wants isn't
-- there
pub data Lacks (set : Set) (s : Shared) (a : Activation) : Type 0 where
  no_instruction : instruction_at set a.driver a.routine a.position ≡ None → Lacks set s a
  no_number : (i : Instr) (r : ℕ) → Executing set a i → (number_operand i ≡ Some r)
      ⊎ (second_operand i ≡ Some r)
      → number_in (register a r) ≡ None → Lacks set s a
  no_packet : (i : Instr) (r : ℕ) → Executing set a i → packet_operand i ≡ Some r
      → packet_in s (register a r) ≡ None → Lacks set s a
  no_room : (turns : ℕ) → Executing set a (Loop turns)
      → nat_lt (length a.loops.items) MAX_LOOPS ≡ false
      → Lacks set s a
  no_loop : Executing set a End → innermost a ≡ None → Lacks set s a
  no_cells : (i : Instr) → Executing set a i → is_of_cells i ≡ true
      → slice_get s.cells a.device ≡ None
      → Lacks set s a
  none_taken : (i : Instr) (lock : Lock) → Executing set a i → lock_taken a i ≡ Some lock
      → owner_of s.locks lock ≡ None → Lacks set s a
  none_freed : (i : Instr) (lock : Lock) → Executing set a i → lock_freed a i ≡ Some lock
      → owner_of s.locks lock ≡ None → Lacks set s a
  no_queue : (i : Instr) (q : ℕ) → Executing set a i → queue_named i ≡ Some q
      → queue_of s a.device q ≡ None → Lacks set s a
  no_start : (i : Instr) → Executing set a i → starts_packets i ≡ true → start_of s a.device ≡ None
      → Lacks set s a
  no_cancel : (r q : ℕ) → Executing set a (Arm r q) → cancel_routine_of set a.driver q ≡ None
      → Lacks set s a
  no_lower : (i : Instr) → Executing set a i → work_of i ≡ Forwarding → lower_of set a.device ≡ None
      → Lacks set s a
  no_status : (form : Return) → Executing set a (Ret form)
      → sort_of set a.driver a.routine ≡ Dispatch
      → is_form_of Dispatch form ≡ true → status_returned a form ≡ None → Lacks set s a
  no_form : (form : Return) → Executing set a (Ret form)
      → is_form_of (sort_of set a.driver a.routine) form ≡ false
      → Lacks set s a

-- the registers after an instruction: as they were, with a number in one of them, or with one moved
-- or cleared
pub data Written (a : Activation) : Instr → List Value → Type 0 where
  keeps_all : (i : Instr) → keeps_registers i ≡ true → Written a i a.registers
  makes_number : (i : Instr) (r n : ℕ) → numbered_by i ≡ Some r
      → Written a i (slice_set a.registers r (Num n))
  moves_over : (r q : ℕ) → Written a (Move r q) (slice_set a.registers r (register a q))
  makes_blank : (r : ℕ) → Written a (Clear r) (slice_set a.registers r Blank)

-- how an activation goes on after an instruction, and whether it jumps
pub data GoesTo (a : Activation) (i : Instr) : Activation → Bool → Type 0 where
  onward : (registers : List Value) → goes_next i ≡ true → Written a i registers
      → GoesTo a i (record a { position = a.position + 1; registers = registers }) false
  jumping : (label : ℕ) → label_of i ≡ Some label → GoesTo a i (at_label a label) true

-- IoStartPacket puts its packet into the device queue, and sets the cancel routine of packets there
abbrev pub waits_armed : Set → Activation → StartState → Bool
waits_armed set a start = has_cancel set a.driver DeviceQueue && start.busy

-- what an instruction about queues comes to: a packet is put into a queue of the device or taken
-- off one, from its front or wherever it stands, given to the device for StartIo, taken out of its
-- current slot or put into it, or the next one is started, or it is taken off the device queue
-- wherever it stands; or there is none to take off or out, and it jumps. How the activation goes
-- on, the queues and what the devices have for StartIo after it, the packet that it touches, if
-- any, and whether a list has no room
pub data Queued (set : Set) (s : Shared) (a : Activation) : Instr → Activation
    → List (List (List ℕ))
    → List StartState → List Action → Bool → Type 0 where
  inserts : (r q n : ℕ) (entries : List ℕ) → Reads s a r n → queue_of s a.device q ≡ Some entries
      → Queued set s a (Insert r q) (next a) (with_queue s a.device q (inserted entries n)).queues
      s.starts
      (Touches n ∷ []) (is_full entries)
  removes : (r q label n : ℕ) (entries : List ℕ) → queue_of s a.device q ≡ Some (n ∷ entries)
      → Queued set s a (Remove r q label) (next (with_register a r (Ref n)))
      (with_queue s a.device q entries).queues s.starts (Touches n ∷ []) false
  removes_none : (r q label : ℕ) → queue_of s a.device q ≡ Some []
      → Queued set s a (Remove r q label) (at_label a label) s.queues s.starts [] false
  unlinks : (r q n : ℕ) (entries : List ℕ) → Reads s a r n → queue_of s a.device q ≡ Some entries
      → Queued set s a (Unlink r q) (next a) (with_queue s a.device q (unlinked entries n)).queues
      s.starts
      (Touches n ∷ []) false
  starts_packet : (r n : ℕ) (start : StartState) → Reads s a r n → start_of s a.device ≡ Some start
      → (waits_armed set a start ≡ false) ⊎ (packet_of s n ≡ None)
      → Queued set s a (Start r) (next a) s.queues (with_start s a.device (started start n)).starts
      (Touches n ∷ []) (not (has_room_to_start start))
  takes_out : (r label n : ℕ) (start : StartState) → start_of s a.device ≡ Some start
      → start.slot ≡ Some n
      → Queued set s a (Take r label) (next (with_register a r (Ref n))) s.queues
      (with_start s a.device (with_slot start None)).starts [] false
  takes_none : (r label : ℕ) (start : StartState) → start_of s a.device ≡ Some start
      → start.slot ≡ None
      → Queued set s a (Take r label) (at_label a label) s.queues s.starts [] false
  puts_in : (r n : ℕ) (start : StartState) → Reads s a r n → start_of s a.device ≡ Some start
      → Queued set s a (Begin r) (next a) s.queues (with_start s a.device
      (with_slot start (Some n))).starts
      (Touches n ∷ []) false
  starts_next : (start : StartState) → start_of s a.device ≡ Some start
      → next_disarmed set a start ≡ None
      → Queued set s a Next (next a) s.queues (with_start s a.device (next_started start)).starts []
      (not (has_room_for_next start))
  starts_gone : (n : ℕ) (start : StartState) → start_of s a.device ≡ Some start
      → next_disarmed set a start ≡ Some n → packet_of s n ≡ None
      → Queued set s a Next (next a) s.queues (with_start s a.device (next_started start)).starts
      (Touches n ∷ []) (not (has_room_for_next start))
  dequeues_packet : (r n : ℕ) (start : StartState) → Reads s a r n
      → start_of s a.device ≡ Some start
      → Queued set s a (Dequeue r) (next a) s.queues
      (with_start s a.device (dequeued start n)).starts (Touches n ∷ []) false

-- the outcome
abbrev pub queued_to : Shared → Activation → List (List (List ℕ)) → List StartState → List Action
    → Bool → Outcome
queued_to s b queues starts actions full =
    record (goes_on (record s { queues = queues; starts = starts }) b actions) { full = full }

-- what an instruction about the device queue comes to that exchanges the cancel routine of a packet
-- too: one that has to wait there gets its cancel routine, the next one that is started loses it.
-- What the devices have for StartIo after it, the packet with its cancel word after it, and whether
-- a list has no room
pub data Waits (set : Set) (s : Shared) (a : Activation) : Instr → List StartState → ℕ
    → Option Armer → Bool → Type 0 where
  arms_waiting : (r n : ℕ) (start : StartState) → Reads s a r n → start_of s a.device ≡ Some start
      → waits_armed set a start ≡ true
      → Waits set s a (Start r) (with_start s a.device (started start n)).starts n
      (Some (armer_waiting a)) (not (has_room_to_start start))
  disarms_next : (n : ℕ) (start : StartState) → start_of s a.device ≡ Some start
      → next_disarmed set a start ≡ Some n
      → Waits set s a Next (with_start s a.device (next_started start)).starts n None
      (not (has_room_for_next start))

-- the outcome
abbrev pub waited_to : Shared → Activation → List StartState → ℕ → Packet → Option Armer → Bool
    → Outcome
waited_to s a starts n p armer full =
    record (goes_on (record (with_packet s n (with_armer p armer)) { starts = starts }) (next a)
    (Touches n ∷ Exchanges n (is_some armer) ∷ [])) { full = full }

-- what an instruction puts into a packet's cancel word, and whether it jumps: the cancel routine of
-- a queue, or none, where it jumps if there was none before
pub data Exchanged (set : Set) (a : Activation) (p : Packet) : Instr → Bool → Option Armer
    → Type 0 where
  arms_for : (r q routine : ℕ) → cancel_routine_of set a.driver q ≡ Some routine
      → Exchanged set a p (Arm r q) false (Some (armer_of a q))
  disarms : (r label : ℕ) → Exchanged set a p (Disarm r label) (is_none p.armer) None

-- what a step of IoCancelIrp comes to, for a packet of a number: it takes the system cancel spin
-- lock, has it already, or waits for it; finds no packet, and frees the lock; sets the packet's
-- cancel flag; finds its cancel word empty, or no routine by it, and frees the lock; or the cancel
-- routine begins in its place
pub data Cancels (set : Set) (s : Shared) (t n : ℕ) : CancelStep → Outcome → Type 0 where
  takes_cancel : owner_of s.locks SystemCancel ≡ Some None
      → Cancels set s t n AcquireStep
      (leaves (with_locks s (with_owner s.locks SystemCancel (Some t)))
      (goes_on_cancelling n SetFlag)
      (Acquires SystemCancel ∷ []))
  retakes_cancel : owner_of s.locks SystemCancel ≡ Some (Some t)
      → Cancels set s t n AcquireStep
      (leaves s (goes_on_cancelling n SetFlag) (Acquires SystemCancel ∷ []))
  awaits_cancel : (owner : ℕ) → owner_of s.locks SystemCancel ≡ Some (Some owner)
      → nat_eq owner t ≡ false
      → Cancels set s t n AcquireStep
      (record (leaves s (goes_on_cancelling n AcquireStep) []) { reply = Waited })
  flags_gone : packet_of s n ≡ None → Cancels set s t n SetFlag (cancel_ends s [])
  sets_flag : (p : Packet) → packet_of s n ≡ Some p
      → Cancels set s t n SetFlag
      (leaves (with_packet s n (cancelled p)) (goes_on_cancelling n Exchange) [])
  exchanges_gone : packet_of s n ≡ None → Cancels set s t n Exchange (cancel_ends s [])
  finds_empty : (p : Packet) → packet_of s n ≡ Some p → p.armer ≡ None
      → Cancels set s t n Exchange
      (cancel_ends (with_packet s n (with_armer p None)) (Exchanges n false ∷ []))
  finds_none : (p : Packet) (armer : Armer) → packet_of s n ≡ Some p → p.armer ≡ Some armer
      → cancel_routine_named set (routine_of_device (slice_get set.devices armer.device))
      armer.queue
      ≡ None
      → Cancels set s t n Exchange
      (cancel_ends (with_packet s n (with_armer p None)) (Exchanges n false ∷ []))
  calls_cancel : (p : Packet) (armer : Armer) (routine : ℕ) → packet_of s n ≡ Some p
      → p.armer ≡ Some armer
      → cancel_routine_named set (routine_of_device (slice_get set.devices armer.device))
      armer.queue
      ≡ Some routine
      → Cancels set s t n Exchange
      (leaves (with_packet s n (with_armer p None))
      (Routine
      (entered (routine_of_device (slice_get set.devices armer.device)) routine armer.device
      (Ref n))
      ∷ [])
      (Exchanges n false ∷ []))

-- a step comes to an outcome: of a thread's top frame, over a frame or none
pub data Comes (set : Set) (s : Shared) (t : ℕ) : Option Frame → Frame → Outcome → Type 0 where
  -- something that the instruction wants isn't there
  errs : {under : Option Frame} (a : Activation) → Lacks set s a
      → Comes set s t under (Routine a) (goes_wrong s a)
  -- another thread owns the lock that it takes
  awaits_lock : {under : Option Frame} (a : Activation) (i : Instr) (lock : Lock) (owner : ℕ)
      → Executing set a i
      → lock_taken a i ≡ Some lock → owner_of s.locks lock ≡ Some (Some owner)
      → nat_eq owner t ≡ false
      → Comes set s t under (Routine a) (waits s a)
  -- registers and cells alone
  computes : {under : Option Frame} (a : Activation) (i : Instr) (b : Activation) (jumped : Bool)
      (cells : List Cells)
      → Executing set a i → work_of i ≡ Computing → GoesTo a i b jumped
      → length cells ≡ length s.cells
      → Comes set s t under (Routine a) (goes_on (record s { cells = cells }) b [])
  opens_loop : {under : Option Frame} (a : Activation) (turns : ℕ) → Executing set a (Loop turns)
      → nat_lt (length a.loops.items) MAX_LOOPS ≡ true
      → Comes set s t under (Routine a)
      (goes_on s (next
      (with_loops a (a.loops.items ++ record { start = a.position + 1; turns = turns } ∷ [])))
      [])
  turns_loop : {under : Option Frame} (a : Activation) (l : OpenLoop) → Executing set a End
      → innermost a ≡ Some l
      → Comes set s t under (Routine a) (goes_on s (turned a l) [])
  -- a paged cell among them
  pages : {under : Option Frame} (a : Activation) (i : Instr) (b : Activation) (cell : OfDevice)
      (cells : List Cells)
      → Executing set a i → work_of i ≡ Paging → GoesTo a i b false → length cells ≡ length s.cells
      → Comes set s t under (Routine a) (goes_on (record s { cells = cells }) b
      (TouchesPaged cell ∷ []))
  -- a packet is touched that isn't live
  touches_gone : {under : Option Frame} (a : Activation) (i : Instr) (r n : ℕ) → Executing set a i
      → is_touching (work_of i) ≡ true → goes_next i ≡ true → packet_operand i ≡ Some r
      → Reads s a r n
      → packet_of s n ≡ None
      → Comes set s t under (Routine a) (goes_on s (next a) (Touches n ∷ []))
  looks_at : {under : Option Frame} (a : Activation) (i : Instr) (b : Activation) (jumped : Bool)
      (r n : ℕ) (p : Packet)
      → Executing set a i → work_of i ≡ Looking → GoesTo a i b jumped → packet_operand i ≡ Some r
      → Reads s a r n
      → packet_of s n ≡ Some p → jumped ≡ jumps_on i p
      → Comes set s t under (Routine a) (goes_on s b (Touches n ∷ []))
  writes_info : {under : Option Frame} (a : Activation) (q r n : ℕ) (p : Packet) (info : ℕ)
      → Executing set a (Put q r)
      → Reads s a q n → packet_of s n ≡ Some p → number_in (register a r) ≡ Some info
      → Comes set s t under (Routine a)
      (goes_on (with_packet s n (with_info p info)) (next a) (Touches n ∷ []))
  marks_packet : {under : Option Frame} (a : Activation) (r n : ℕ) (p : Packet)
      → Executing set a (Mark r)
      → Reads s a r n → packet_of s n ≡ Some p
      → Comes set s t under (Routine a)
      (goes_on (with_packet s n (mark_current p)) (next a) (Touches n ∷ Marks n ∷ []))
  exchanges : {under : Option Frame} (a : Activation) (i : Instr) (b : Activation) (jumped : Bool)
      (r n : ℕ) (p : Packet) (armer : Option Armer)
      → Executing set a i → work_of i ≡ Exchanging → GoesTo a i b jumped → packet_operand i ≡ Some r
      → Reads s a r n
      → packet_of s n ≡ Some p → Exchanged set a p i jumped armer
      → Comes set s t under (Routine a)
      (goes_on (with_packet s n (with_armer p armer)) b
      (Touches n ∷ Exchanges n (is_some armer) ∷ []))
  -- a free lock becomes the thread's, one that it owns stays its own, one becomes free
  takes_lock : {under : Option Frame} (a : Activation) (i : Instr) (lock : Lock) → Executing set a i
      → lock_taken a i ≡ Some lock → owner_of s.locks lock ≡ Some None
      → Comes set s t under (Routine a)
      (goes_on (with_locks s (with_owner s.locks lock (Some t))) (next a) (Acquires lock ∷ []))
  retakes_lock : {under : Option Frame} (a : Activation) (i : Instr) (lock : Lock)
      → Executing set a i
      → lock_taken a i ≡ Some lock → owner_of s.locks lock ≡ Some (Some t)
      → Comes set s t under (Routine a) (goes_on s (next a) (Acquires lock ∷ []))
  frees_lock : {under : Option Frame} (a : Activation) (i : Instr) (lock : Lock) (owner : Option ℕ)
      → Executing set a i
      → lock_freed a i ≡ Some lock → owner_of s.locks lock ≡ Some owner
      → Comes set s t under (Routine a)
      (goes_on (with_locks s (with_owner s.locks lock None)) (next a) (Releases lock ∷ []))
  -- queues of the device, or what it has for StartIo
  works_on_queues : {under : Option Frame} (a : Activation) (i : Instr) (b : Activation)
      (queues : List (List (List ℕ))) (starts : List StartState) (actions : List Action)
      (full : Bool)
      → Executing set a i → Queued set s a i b queues starts actions full
      → Comes set s t under (Routine a) (queued_to s b queues starts actions full)
  works_on_waiting : {under : Option Frame} (a : Activation) (i : Instr) (starts : List StartState)
      (n : ℕ) (p : Packet) (armer : Option Armer) (full : Bool)
      → Executing set a i → packet_of s n ≡ Some p → Waits set s a i starts n armer full
      → Comes set s t under (Routine a) (waited_to s a starts n p armer full)
  completes_packet : {under : Option Frame} (a : Activation) (r : ℕ) (status : Status) (n : ℕ)
      (p : Packet)
      → Executing set a (Complete r status) → Reads s a r n → packet_of s n ≡ Some p
      → Comes set s t under (Routine a)
      (leaves (with_packet s n (completed p status)) (Routine (next a) ∷ Walk n ∷ [])
      (Executes ∷ Completes n ∷ []))
  completes_gone : {under : Option Frame} (a : Activation) (r : ℕ) (status : Status) (n : ℕ)
      → Executing set a (Complete r status) → Reads s a r n → packet_of s n ≡ None
      → Comes set s t under (Routine a) (goes_on s (next a) (Completes n ∷ []))
  -- the lower driver is asked, in the caller's location or in one of its own
  passes_down : {under : Option Frame} (a : Activation) (r n : ℕ) (p : Packet) (lower : ℕ)
      → Executing set a (Pass r)
      → Reads s a r n → packet_of s n ≡ Some p → lower_of set a.device ≡ Some lower
      → Comes set s t under (Routine a)
      (leaves (with_packet s n (shared_with p lower)) (asks set a lower p n)
      (Executes ∷ Touches n ∷ []))
  calls_down : {under : Option Frame} (a : Activation) (r : ℕ) (f : Option ℕ) (n : ℕ) (p : Packet)
      (lower : ℕ)
      → Executing set a (Call r f) → Reads s a r n → packet_of s n ≡ Some p
      → lower_of set a.device ≡ Some lower
      → Comes set s t under (Routine a)
      (leaves (with_packet s n (sent_down p lower (set_by a f))) (asks set a lower p n)
      (Executes ∷ Touches n ∷ Calls n ∷ []))
  -- a dispatch routine returns a status; a completion routine lets the completion go on, over the
  -- I/O manager's frame or over none of its
  returns_status : {under : Option Frame} (a : Activation) (form : Return) (status : Status)
      → Executing set a (Ret form) → sort_of set a.driver a.routine ≡ Dispatch
      → status_returned a form ≡ Some status
      → Comes set s t under (Routine a) (returned s status)
  lets_go : {under : Option Frame} (a : Activation) → Executing set a (Ret Continue)
      → sort_of set a.driver a.routine ≡ Propagate → is_walk under ≡ false
      → Comes set s t under (Routine a) (leaves s [] (Executes ∷ []))
  lets_walk : (a : Activation) (n : ℕ) → Executing set a (Ret Continue)
      → sort_of set a.driver a.routine ≡ Propagate
      → Comes set s t (Some (Walk n)) (Routine a) (leaves s [] (Executes ∷ Touches n ∷ []))
  -- one that was lent a packet gives it back with that, or finds that it has topped out
  resumes_walk : (a : Activation) (n : ℕ) (p : Packet) → Executing set a (Ret Continue)
      → sort_of set a.driver a.routine ≡ Hold → packet_of s n ≡ Some p
      → Comes set s t (Some (Walk n)) (Routine a)
      (leaves (with_packet s n (record p { completing = true })) []
      (Executes ∷ Touches n ∷ Continues n ∷ []))
  resumes_gone : (a : Activation) (n : ℕ) → Executing set a (Ret Continue)
      → sort_of set a.driver a.routine ≡ Hold → packet_of s n ≡ None
      → Comes set s t (Some (Walk n)) (Routine a)
      (leaves s [] (Executes ∷ Touches n ∷ Continues n ∷ []))
  resumes_none : {under : Option Frame} (a : Activation) → Executing set a (Ret Continue)
      → sort_of set a.driver a.routine ≡ Hold → is_walk under ≡ false
      → Comes set s t under (Routine a) (leaves s [] (Executes ∷ []))
  -- a completion routine stops the completion: the I/O manager's frame below is gone too
  stops_walk : (a : Activation) (n : ℕ) → Executing set a (Ret Stop)
      → is_completion (sort_of set a.driver a.routine) ≡ true
      → Comes set s t (Some (Walk n)) (Routine a)
      (record (leaves s [] (Executes ∷ [])) { taken_below = true })
  stops_none : {under : Option Frame} (a : Activation) → Executing set a (Ret Stop)
      → is_completion (sort_of set a.driver a.routine) ≡ true → is_walk under ≡ false
      → Comes set s t under (Routine a) (leaves s [] (Executes ∷ []))
  -- a StartIo, DPC or cancel routine ends, and nobody is told
  ends_startio : {under : Option Frame} (a : Activation) → Executing set a (Ret Void)
      → sort_of set a.driver a.routine ≡ StartIo
      → Comes set s t under (Routine a) (leaves s [] (Executes ∷ []))
  ends_dpc : {under : Option Frame} (a : Activation) → Executing set a (Ret Void)
      → sort_of set a.driver a.routine ≡ Dpc
      → Comes set s t under (Routine a) (leaves s [] (Executes ∷ []))
  ends_cancel : {under : Option Frame} (a : Activation) → Executing set a (Ret Void)
      → sort_of set a.driver a.routine ≡ Cancel
      → Comes set s t under (Routine a) (leaves s [] (Executes ∷ []))
  -- the I/O manager finds no packet; it runs the completion routine of the location that it leaves,
  -- which may look at the packet or is lent it; where there is none it goes up, without a mark or
  -- with one that it carries up; or the packet tops out
  walks_gone : {under : Option Frame} (n : ℕ) → packet_of s n ≡ None
      → Comes set s t under (Walk n) (leaves s [] (Touches n ∷ []))
  walks_to : {under : Option Frame} (n : ℕ) (p : Packet) (c : Completion) → packet_of s n ≡ Some p
      → completion_of (current_location p) ≡ Some c → is_hold (sort_of_completion set c) ≡ false
      → Comes set s t under (Walk n)
      (leaves (with_packet s n (moved_up (left_location p)))
      (Walk n ∷ Routine (completes_with set c n) ∷ [])
      (Touches n ∷ Leaves n ∷ Ups n ∷ []))
  lends_to : {under : Option Frame} (n : ℕ) (p : Packet) (c : Completion) → packet_of s n ≡ Some p
      → completion_of (current_location p) ≡ Some c → sort_of_completion set c ≡ Hold
      → Comes set s t under (Walk n)
      (leaves (with_packet s n (record (moved_up (left_location p)) { completing = false }))
      (Walk n ∷ Routine (completes_with set c n) ∷ [])
      (Touches n ∷ Leaves n ∷ Ups n ∷ Lends n ∷ []))
  walks_up : {under : Option Frame} (n : ℕ) (p : Packet) → packet_of s n ≡ Some p
      → completion_of (current_location p) ≡ None → nat_lt 1 p.depth ≡ true
      → is_marked (current_location p) ≡ false
      → Comes set s t under (Walk n)
      (leaves (with_packet s n (moved_up (left_location p))) (Walk n ∷ [])
      (Touches n ∷ Leaves n ∷ Ups n ∷ []))
  carries_up : {under : Option Frame} (n : ℕ) (p : Packet) → packet_of s n ≡ Some p
      → completion_of (current_location p) ≡ None → nat_lt 1 p.depth ≡ true
      → is_marked (current_location p) ≡ true
      → Comes set s t under (Walk n)
      (leaves (with_packet s n (mark_current (moved_up (left_location p)))) (Walk n ∷ [])
      (Touches n ∷ Leaves n ∷ Ups n ∷ Marks n ∷ []))
  tops_out : {under : Option Frame} (n : ℕ) (p : Packet) → packet_of s n ≡ Some p
      → completion_of (current_location p) ≡ None → nat_lt 1 p.depth ≡ false
      → Comes set s t under (Walk n)
      (record (leaves (without_packet s n) [] (Touches n ∷ Leaves n ∷ TopsOut n ∷ [])) {
        reply = Topped n p.status p.info;
      })
  -- the I/O manager cancels a packet
  cancels : {under : Option Frame} (n : ℕ) (step : CancelStep) (o : Outcome)
      → Cancels set s t n step o
      → Comes set s t under (CancelFrame (record { packet = n; next = step })) o
