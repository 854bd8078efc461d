-- In every run of a set each device has its cells, its locks and its DPC: as many as at the first.
use Rattle.laws_runs.proofs.Prelude.{ap, length-replicate, length-set, refl, zero, ◌∙◌, Bool, List, None, Option, Some, [], false, if◌then◌else◌, length, packet_of, replicate, slice_get, slice_index_or, slice_set, suc, true, ℕ, ◌∷◌, ◌≡◌}
use Rattle.laws_runs.proofs.Prelude.{Outcome, acquire_effect, arm_effect, arm_packet, ask_effect, ask_packet, begin_effect, call_effect, call_packet, cancel_step, complete_effect, complete_packet, dequeue_effect, disarm_effect, disarm_packet, end_effect, frame_effect, get_effect, get_packet, goes_wrong, insert_effect, instruction_effect, jump_effect, let_on, load_effect, load_paged_effect, look_effect, look_packet, mark_effect, mark_packet, next_effect, next_packet, next_waiting, number_effect, pass_effect, pass_packet, put_effect, put_packet, release_effect, remove_effect, return_effect, return_lower, routine_effect, start_effect, start_packet, start_waiting, store_effect, store_paged_effect, take_effect, take_from, unlink_effect, walk_packet}
use Rattle.laws_runs.proofs.Prelude.{Change, effect, interrupt_on, issue_on, step_thread, top_effect, unchanged}
use Rattle.laws_runs.proofs.Prelude.{Answered, Run, begun, refused, run, step, Set, Shared, World, with_owner, Lock, Spin, SystemCancel, Event, Issue, CancelEvent, Interrupt, DpcEvent, StartIoEvent, Step, Instr, Return, Continue, Sort, Dispatch, StartIo, Dpc, Propagate, Hold, Cancel, Status, WithStatus, Stop, Void, Activation, Armer, CancelStep, AcquireStep, Exchange, SetFlag, Cells, Completion, Device, Frame, CancelFrame, Routine, Walk, Irql, Packet, Thread, StartState, OpenLoop, Major, SPIN_LOCKS}
use Rattle.laws_runs.proofs.Prelude.{Acquire, AcquireCancel, Add, Arm, Begin, Call, Complete, Dequeue, Disarm, End, Get, IfCancel, IfPending, Insert, JumpIfLess, JumpIfZero, Load, LoadPaged, Loop, Mark, Next, Pass, Put, Release, ReleaseCancel, Remove, Ret, Start, Store, StorePaged, Subtract, Take, Unlink}
use Rattle.laws_runs.proofs.Prelude.{blank_cells, with_armer, with_packet, cancel_routine_named, cancel_routine_of, completion_of, current_location, dpc_of, has_cancel, head_of, innermost, instruction_at, is_less_at, is_zero_at, left_location, lower_of, next_disarmed, number_in, owner_of, packet_in, queue_of, register, routine_of_device, sort_of, spin_lock, start_of, startio_of, status_in, sum_of, difference_of, is_queued, DeviceQueue, ◌&&◌, nat_lt, ◌-◌, take, top_of}
use Rattle.laws_runs.proofs.Lists.{Each, each_at, each_same, each_set}
use Rattle.laws_runs.proofs.Runs.Events.{Answers, refuses_stopped, refuses_over, goes_on_with, stops_for, stops_wrong, answers}
use Rattle.laws_runs.proofs.Runs.Kept.{kept_run}
use Rattle.model.specs.declared.limits.TheConstants.{CELLS}
use Rattle.model.specs.declared.instr.Return.TheVariants.{Lower as LowerForm}
use Rattle.model.specs.Effect.{cancel_acquires, cancel_armed, cancel_calls, cancel_exchanges, cancel_flags, given_back, stored, stored_paged, walk_from}
use Rattle.laws_runs.proofs.Prelude.{Idle, Refused, is_idle, not}
use Rattle.model.specs.Events.{cancel_of, cancel_on, dpc_begun, dpc_on, irql_of, startio_for, startio_from, startio_on}
use Rattle.model.specs.Run.{answered_on}

-- a device has all its cells, and all its locks
pub record HasCells (c : Cells) : Type 0 where
  pub plain : length c.plain ≡ CELLS
  pub paged : length c.paged ≡ CELLS

abbrev pub HasLocks : List (Option ℕ) → Type 0
HasLocks owners = length owners ≡ SPIN_LOCKS

-- and so has each device
pub record HasAll (devices : ℕ) (cells : List Cells) (spin : List (List (Option ℕ)))
    (dpcs : List Bool) : Type 0 where
  pub cell_count : length cells ≡ devices
  pub cell_sizes : Each HasCells cells
  pub lock_count : length spin ≡ devices
  pub lock_sizes : Each HasLocks spin
  pub dpc_count : length dpcs ≡ devices

abbrev pub Shaped : ℕ → Shared → Type 0
Shaped devices s = HasAll devices s.cells s.locks.spin s.dpcs

-- a cell or a lock is written
each_put : {A : Type 0} (P : A → Type 0) (xs : List A) (i : ℕ) (y : A) → Each P xs
    → ((x : A) → slice_get xs i ≡ Some x → P y) → Each P (slice_set xs i y)
each_put P [] i y h one = tt
each_put P (x ∷ xs) zero y h one = (one x refl, h.1)
each_put P (x ∷ xs) (suc i) y h one = (h.0, each_put P xs i y h.1 one)

index_is : {A : Type 0} (xs : List A) (i : ℕ) (x d : A) → slice_get xs i ≡ Some x
    → slice_index_or xs i d ≡ x
index_is [] i x d h = cc
index_is (y ∷ xs) zero x d h = cc
index_is (y ∷ xs) (suc i) x d h = index_is xs i x d h

module _ (devices : ℕ) (cells : List Cells) (spin : List (List (Option ℕ))) (dpcs : List Bool)
    (h : HasAll devices cells spin dpcs) where
  cells_written : (d : ℕ) (old c : Cells) → slice_get cells d ≡ Some old → (HasCells old → HasCells c)
      → HasAll devices (slice_set cells d c) spin dpcs
  cells_written d old c there kept =
      record {
        cell_count = length-set cells d c ∙ h.cell_count;
        cell_sizes = each_set HasCells cells d c h.cell_sizes
            (kept (each_at HasCells cells d old h.cell_sizes there));
        lock_count = h.lock_count;
        lock_sizes = h.lock_sizes;
        dpc_count = h.dpc_count;
      }

  lock_written : (d n : ℕ) (o : Option ℕ)
      → HasAll devices cells (slice_set spin d (slice_set (slice_index_or spin d []) n o)) dpcs
  lock_written d n o =
      let owners : List (Option ℕ) = slice_set (slice_index_or spin d []) n o in
      record {
        cell_count = h.cell_count;
        cell_sizes = h.cell_sizes;
        lock_count = length-set spin d owners ∙ h.lock_count;
        lock_sizes =
            each_put HasLocks spin d owners h.lock_sizes (λ old there.
            length-set (slice_index_or spin d []) n o
            ∙ ap (λ (xs : List (Option ℕ)). length xs) (index_is spin d old [] there)
            ∙ each_at HasLocks spin d old h.lock_sizes there);
        dpc_count = h.dpc_count;
      }

  dpc_written : (d : ℕ) (queued : Bool) → HasAll devices cells spin (slice_set dpcs d queued)
  dpc_written d queued =
      record {
        cell_count = h.cell_count;
        cell_sizes = h.cell_sizes;
        lock_count = h.lock_count;
        lock_sizes = h.lock_sizes;
        dpc_count = length-set dpcs d queued ∙ h.dpc_count;
      }

-- a step of a thread's top frame
module _ (devices : ℕ) (set : Set) (s : Shared) (h : Shaped devices s) where
  abbrev pub Kept : Outcome → Type 0
  Kept o = Shaped devices o.shared

  if_kept : (b : Bool) (x y : Outcome) → Kept x → Kept y → Kept (if b then x else y)
  if_kept true x y one two = one
  if_kept false x y one two = two

  owner_kept : (lock : Lock) (o : Option ℕ)
      → HasAll devices s.cells (with_owner s.locks lock o).spin s.dpcs
  owner_kept SystemCancel o = h
  owner_kept (Spin l) o =
      lock_written devices s.cells s.locks.spin s.dpcs h l.device l.number o

  number_kept : (a : Activation) (r : ℕ) (o : Option ℕ) → Kept (number_effect s a r o)
  number_kept a r None = h
  number_kept a r (Some n) = h

  jump_kept : (a : Activation) (label : ℕ) (o : Option Bool) → Kept (jump_effect s a label o)
  jump_kept a label None = h
  jump_kept a label (Some jumps) = h

  end_kept : (a : Activation) (o : Option OpenLoop) → Kept (end_effect s a o)
  end_kept a None = h
  end_kept a (Some l) = h

  load_kept : (a : Activation) (r c : ℕ) (o : Option Cells) → Kept (load_effect s a r c o)
  load_kept a r c None = h
  load_kept a r c (Some cells) = h

  load_paged_kept : (a : Activation) (r c : ℕ) (o : Option Cells)
      → Kept (load_paged_effect s a r c o)
  load_paged_kept a r c None = h
  load_paged_kept a r c (Some cells) = h

  store_kept : (a : Activation) (c : ℕ) (n : Option ℕ) (o : Option Cells)
      → slice_get s.cells a.device ≡ o → Kept (store_effect s a c n o)
  store_kept a c None o there = h
  store_kept a c (Some n) None there = h
  store_kept a c (Some n) (Some cells) there =
      cells_written devices s.cells s.locks.spin s.dpcs h a.device cells (stored cells c n) there
      (λ old. record { plain = length-set cells.plain c n ∙ old.plain; paged = old.paged })

  store_paged_kept : (a : Activation) (c : ℕ) (n : Option ℕ) (o : Option Cells)
      → slice_get s.cells a.device ≡ o → Kept (store_paged_effect s a c n o)
  store_paged_kept a c None o there = h
  store_paged_kept a c (Some n) None there = h
  store_paged_kept a c (Some n) (Some cells) there =
      cells_written devices s.cells s.locks.spin s.dpcs h a.device cells (stored_paged cells c n)
      there
      (λ old. record { plain = old.plain; paged = length-set cells.paged c n ∙ old.paged })

  -- an instruction on a packet that is live or gone
  of_packet : (f : ℕ → Option Packet → Outcome) (a : Activation) → Kept (goes_wrong s a)
      → ((n : ℕ) → Kept (f n None)) → ((n : ℕ) (p : Packet) → Kept (f n (Some p)))
      → (n : ℕ) (o : Option Packet) → Kept (f n o)
  of_packet f a wrong none some n None = none n
  of_packet f a wrong none some n (Some p) = some n p

  get_kept : (a : Activation) (r : ℕ) (field : _) (n : Option ℕ) → Kept (get_effect s a r field n)
  get_kept a r field None = h
  get_kept a r field (Some n) =
      of_packet (λ m o. get_packet s a r field m o) a h (λ m. h) (λ m p. h) n (packet_of s n)

  put_kept : (a : Activation) (info n : Option ℕ) → Kept (put_effect s a info n)
  put_kept a None n = h
  put_kept a (Some info) None = h
  put_kept a (Some info) (Some n) =
      of_packet (λ m o. put_packet s a info m o) a h (λ m. h) (λ m p. h) n (packet_of s n)

  mark_kept : (a : Activation) (n : Option ℕ) → Kept (mark_effect s a n)
  mark_kept a None = h
  mark_kept a (Some n) =
      of_packet (λ m o. mark_packet s a m o) a h (λ m. h) (λ m p. h) n (packet_of s n)

  acquire_kept : (t : ℕ) (a : Activation) (lock : Lock) (o : Option (Option ℕ))
      → Kept (acquire_effect s t a lock o)
  acquire_kept t a lock None = h
  acquire_kept t a lock (Some None) = owner_kept lock (Some t)
  acquire_kept t a lock (Some (Some owner)) = if_kept _ _ _ h h

  release_kept : (a : Activation) (lock : Lock) (o : Option (Option ℕ))
      → Kept (release_effect s a lock o)
  release_kept a lock None = h
  release_kept a lock (Some owner) = owner_kept lock None

  insert_kept : (a : Activation) (q : ℕ) (n : Option ℕ) (o : Option (List ℕ))
      → Kept (insert_effect s a q n o)
  insert_kept a q None o = h
  insert_kept a q (Some n) None = h
  insert_kept a q (Some n) (Some entries) = h

  remove_kept : (a : Activation) (r q label : ℕ) (o : Option (List ℕ))
      → Kept (remove_effect s a r q label o)
  remove_kept a r q label None = h
  remove_kept a r q label (Some []) = h
  remove_kept a r q label (Some (n ∷ entries)) = h

  unlink_kept : (a : Activation) (q : ℕ) (n : Option ℕ) (o : Option (List ℕ))
      → Kept (unlink_effect s a q n o)
  unlink_kept a q None o = h
  unlink_kept a q (Some n) None = h
  unlink_kept a q (Some n) (Some entries) = h

  arm_kept : (a : Activation) (q : ℕ) (n cancel : Option ℕ) → Kept (arm_effect s a q n cancel)
  arm_kept a q None cancel = h
  arm_kept a q (Some n) None = h
  arm_kept a q (Some n) (Some cancel) =
      of_packet (λ m o. arm_packet s a q m o) a h (λ m. h) (λ m p. h) n (packet_of s n)

  disarm_kept : (a : Activation) (label : ℕ) (n : Option ℕ) → Kept (disarm_effect s a label n)
  disarm_kept a label None = h
  disarm_kept a label (Some n) =
      of_packet (λ m o. disarm_packet s a label m o) a h (λ m. h) (λ m p. h) n (packet_of s n)

  ask_kept : (a : Activation) (label : ℕ) (n : Option ℕ) → Kept (ask_effect s a label n)
  ask_kept a label None = h
  ask_kept a label (Some n) =
      of_packet (λ m o. ask_packet s a label m o) a h (λ m. h) (λ m p. h) n (packet_of s n)

  look_kept : (a : Activation) (label : ℕ) (n : Option ℕ) → Kept (look_effect s a label n)
  look_kept a label None = h
  look_kept a label (Some n) =
      of_packet (λ m o. look_packet s a label m o) a h (λ m. h) (λ m p. h) n (packet_of s n)

  waiting_kept : (a : Activation) (n : ℕ) (start : StartState) (waits_there : Bool)
      → Kept (start_packet s a n start waits_there)
  waiting_kept a n start false = h
  waiting_kept a n start true =
      of_packet (λ m o. start_waiting s a m start o) a h (λ m. h) (λ m p. h) n (packet_of s n)

  start_kept : (a : Activation) (n : Option ℕ) (o : Option StartState)
      → Kept (start_effect set s a n o)
  start_kept a None o = h
  start_kept a (Some n) None = h
  start_kept a (Some n) (Some start) =
      waiting_kept a n start (has_cancel set a.driver DeviceQueue && start.busy)

  take_from_kept : (a : Activation) (r label : ℕ) (start : StartState) (slot : Option ℕ)
      → Kept (take_from s a r label start slot)
  take_from_kept a r label start None = h
  take_from_kept a r label start (Some n) = h

  take_kept : (a : Activation) (r label : ℕ) (o : Option StartState)
      → Kept (take_effect s a r label o)
  take_kept a r label None = h
  take_kept a r label (Some start) = take_from_kept a r label start start.slot

  begin_kept : (a : Activation) (n : Option ℕ) (o : Option StartState)
      → Kept (begin_effect s a n o)
  begin_kept a None o = h
  begin_kept a (Some n) None = h
  begin_kept a (Some n) (Some start) = h

  next_waiting_kept : (a : Activation) (start : StartState) (n : Option ℕ)
      → Kept (next_waiting s a start n)
  next_waiting_kept a start None = h
  next_waiting_kept a start (Some n) =
      of_packet (λ m o. next_packet s a start m o) a h (λ m. h) (λ m p. h) n (packet_of s n)

  next_kept : (a : Activation) (o : Option StartState) → Kept (next_effect set s a o)
  next_kept a None = h
  next_kept a (Some start) = next_waiting_kept a start (next_disarmed set a start)

  dequeue_kept : (a : Activation) (n : Option ℕ) (o : Option StartState)
      → Kept (dequeue_effect s a n o)
  dequeue_kept a None o = h
  dequeue_kept a (Some n) None = h
  dequeue_kept a (Some n) (Some start) = h

  pass_kept : (a : Activation) (n lower : Option ℕ) → Kept (pass_effect set s a n lower)
  pass_kept a None lower = h
  pass_kept a (Some n) None = h
  pass_kept a (Some n) (Some lower) =
      of_packet (λ m o. pass_packet set s a lower m o) a h (λ m. h) (λ m p. h) n (packet_of s n)

  call_kept : (a : Activation) (f n lower : Option ℕ) → Kept (call_effect set s a f n lower)
  call_kept a f None lower = h
  call_kept a f (Some n) None = h
  call_kept a f (Some n) (Some lower) =
      of_packet (λ m o. call_packet set s a f lower m o) a h (λ m. h) (λ m p. h) n (packet_of s n)

  complete_kept : (a : Activation) (status : Status) (n : Option ℕ)
      → Kept (complete_effect s a status n)
  complete_kept a status None = h
  complete_kept a status (Some n) =
      of_packet (λ m o. complete_packet s a status m o) a h (λ m. h) (λ m p. h) n (packet_of s n)

  lower_kept : (a : Activation) (o : Option Status) → Kept (return_lower s a o)
  lower_kept a None = h
  lower_kept a (Some status) = h

  back_kept : (n : ℕ) (o : Option Packet) → Shaped devices (given_back s n o)
  back_kept n None = h
  back_kept n (Some p) = h

  let_on_kept : (under : Option Frame) → Kept (let_on s under)
  let_on_kept None = h
  let_on_kept (Some (Routine a)) = h
  let_on_kept (Some (Walk n)) = back_kept n (packet_of s n)
  let_on_kept (Some (CancelFrame c)) = h

  return_kept : (a : Activation) (under : Option Frame) (sort : Sort) (form : Return)
      → Kept (return_effect s a under sort form)
  return_kept a under Dispatch (WithStatus status) = h
  return_kept a under Dispatch (LowerForm r) = lower_kept a (status_in (register a r))
  return_kept a under Dispatch Continue = h
  return_kept a under Dispatch Stop = h
  return_kept a under Dispatch Void = h
  return_kept a under StartIo (WithStatus status) = h
  return_kept a under StartIo (LowerForm r) = h
  return_kept a under StartIo Continue = h
  return_kept a under StartIo Stop = h
  return_kept a under StartIo Void = h
  return_kept a under Dpc (WithStatus status) = h
  return_kept a under Dpc (LowerForm r) = h
  return_kept a under Dpc Continue = h
  return_kept a under Dpc Stop = h
  return_kept a under Dpc Void = h
  return_kept a under Propagate (WithStatus status) = h
  return_kept a under Propagate (LowerForm r) = h
  return_kept a under Propagate Continue = h
  return_kept a under Propagate Stop = h
  return_kept a under Propagate Void = h
  return_kept a under Hold (WithStatus status) = h
  return_kept a under Hold (LowerForm r) = h
  return_kept a under Hold Continue = let_on_kept under
  return_kept a under Hold Stop = h
  return_kept a under Hold Void = h
  return_kept a under Cancel (WithStatus status) = h
  return_kept a under Cancel (LowerForm r) = h
  return_kept a under Cancel Continue = h
  return_kept a under Cancel Stop = h
  return_kept a under Cancel Void = h

  instruction_kept : (t : ℕ) (under : Option Frame) (a : Activation) (i : Instr)
      → Kept (instruction_effect set s t under a i)
  instruction_kept t under a (Add r q) = number_kept a r (sum_of a r q)
  instruction_kept t under a (Subtract r q) = number_kept a r (difference_of a r q)
  instruction_kept t under a (JumpIfZero r label) = jump_kept a label (is_zero_at a r)
  instruction_kept t under a (JumpIfLess r q label) = jump_kept a label (is_less_at a r q)
  instruction_kept t under a (Loop turns) = if_kept _ _ _ h h
  instruction_kept t under a End = end_kept a (innermost a)
  instruction_kept t under a (Load r c) = load_kept a r c (slice_get s.cells a.device)
  instruction_kept t under a (Store c r) =
      store_kept a c (number_in (register a r)) (slice_get s.cells a.device) refl
  instruction_kept t under a (LoadPaged r c) = load_paged_kept a r c (slice_get s.cells a.device)
  instruction_kept t under a (StorePaged c r) =
      store_paged_kept a c (number_in (register a r)) (slice_get s.cells a.device) refl
  instruction_kept t under a (Get r q field) = get_kept a r field (packet_in s (register a q))
  instruction_kept t under a (Put q r) =
      put_kept a (number_in (register a r)) (packet_in s (register a q))
  instruction_kept t under a (Mark r) = mark_kept a (packet_in s (register a r))
  instruction_kept t under a (Acquire lock) =
      acquire_kept t a (spin_lock a lock) (owner_of s.locks (spin_lock a lock))
  instruction_kept t under a (Release lock) =
      release_kept a (spin_lock a lock) (owner_of s.locks (spin_lock a lock))
  instruction_kept t under a AcquireCancel =
      acquire_kept t a SystemCancel (owner_of s.locks SystemCancel)
  instruction_kept t under a ReleaseCancel =
      release_kept a SystemCancel (owner_of s.locks SystemCancel)
  instruction_kept t under a (Insert r q) =
      insert_kept a q (packet_in s (register a r)) (queue_of s a.device q)
  instruction_kept t under a (Remove r q label) = remove_kept a r q label (queue_of s a.device q)
  instruction_kept t under a (Unlink r q) =
      unlink_kept a q (packet_in s (register a r)) (queue_of s a.device q)
  instruction_kept t under a (Arm r q) =
      arm_kept a q (packet_in s (register a r)) (cancel_routine_of set a.driver q)
  instruction_kept t under a (Disarm r label) = disarm_kept a label (packet_in s (register a r))
  instruction_kept t under a (IfCancel r label) = ask_kept a label (packet_in s (register a r))
  instruction_kept t under a (Start r) =
      start_kept a (packet_in s (register a r)) (start_of s a.device)
  instruction_kept t under a (Take r label) = take_kept a r label (start_of s a.device)
  instruction_kept t under a (Begin r) =
      begin_kept a (packet_in s (register a r)) (start_of s a.device)
  instruction_kept t under a Next = next_kept a (start_of s a.device)
  instruction_kept t under a (Dequeue r) =
      dequeue_kept a (packet_in s (register a r)) (start_of s a.device)
  instruction_kept t under a (Pass r) =
      pass_kept a (packet_in s (register a r)) (lower_of set a.device)
  instruction_kept t under a (Call r f) =
      call_kept a f (packet_in s (register a r)) (lower_of set a.device)
  instruction_kept t under a (IfPending r label) = look_kept a label (packet_in s (register a r))
  instruction_kept t under a (Complete r status) =
      complete_kept a status (packet_in s (register a r))
  instruction_kept t under a (Ret form) =
      return_kept a under (sort_of set a.driver a.routine) form
  instruction_kept t under a _ = h

  routine_kept : (t : ℕ) (under : Option Frame) (a : Activation) (o : Option Instr)
      → Kept (routine_effect set s t under a o)
  routine_kept t under a None = h
  routine_kept t under a (Some i) = instruction_kept t under a i

  walk_from_kept : (n : ℕ) (p : Packet) (o : Option Completion) → Kept (walk_from set s n p o)
  walk_from_kept n p (Some c) = h
  walk_from_kept n p None = if_kept (nat_lt 1 p.depth) _ _ h h

  walk_kept : (n : ℕ) (o : Option Packet) → Kept (walk_packet set s n o)
  walk_kept n None = h
  walk_kept n (Some p) = walk_from_kept n (left_location p) (completion_of (current_location p))

  acquires_kept : (t n : ℕ) (o : Option ℕ) → Kept (cancel_acquires s t n o)
  acquires_kept t n None = h
  acquires_kept t n (Some owner) = if_kept _ _ _ h h

  flags_kept : (n : ℕ) (o : Option Packet) → Kept (cancel_flags s n o)
  flags_kept n None = h
  flags_kept n (Some p) = h

-- a step of IoCancelIrp
module _ (devices : ℕ) (set : Set) (s : Shared) (h : Shaped devices s) where
  calls_kept : (n : ℕ) (armer : Armer) (driver : ℕ) (o : Option ℕ)
      → Shaped devices (cancel_calls s n armer driver o).shared
  calls_kept n armer driver None = h
  calls_kept n armer driver (Some routine) = h

  armed_kept : (n : ℕ) (o : Option Armer) → Shaped devices (cancel_armed set s n o).shared
  armed_kept n None = h
  armed_kept n (Some armer) =
      let driver : ℕ = routine_of_device (slice_get set.devices armer.device) in
      calls_kept n armer driver (cancel_routine_named set driver armer.queue)

module _ (devices : ℕ) (set : Set) (s : Shared) (h : Shaped devices s) where
  exchanges_kept : (n : ℕ) (o : Option Packet)
      → Shaped devices (cancel_exchanges set s n o).shared
  exchanges_kept n None = h
  exchanges_kept n (Some p) = armed_kept devices set (with_packet s n (with_armer p None)) h n p.armer

  cancel_kept : (t n : ℕ) (step : CancelStep) → Shaped devices (cancel_step set s t n step).shared
  cancel_kept t n AcquireStep = acquires_kept devices set s h t n s.locks.system_cancel
  cancel_kept t n SetFlag = flags_kept devices set s h n (packet_of s n)
  cancel_kept t n Exchange = exchanges_kept n (packet_of s n)

  pub frame_kept : (t : ℕ) (under : Option Frame) (f : Frame)
      → Shaped devices (frame_effect set s t under f).shared
  frame_kept t under (Routine a) =
      routine_kept devices set s h t under a (instruction_at set a.driver a.routine a.position)
  frame_kept t under (Walk n) = walk_kept devices set s h n (packet_of s n)
  frame_kept t under (CancelFrame c) = cancel_kept t c.packet c.next

-- an event
module _ (devices : ℕ) (set : Set) (w : World) (h : Shaped devices w.shared) where
  abbrev pub Comes : Change → Type 0
  Comes c = Shaped devices c.world.shared

  if_comes : (b : Bool) (c d : Change) → Comes c → Comes d → Comes (if b then c else d)
  if_comes true c d one two = one
  if_comes false c d one two = two

  top_comes : (t : ℕ) (thread : Thread) (below : List Frame) (o : Option Frame)
      → Comes (top_effect set w t thread below o)
  top_comes t thread below None = h
  top_comes t thread below (Some f) = frame_kept devices set w.shared h t (top_of below) f

  step_comes : (t : ℕ) (o : Option Thread) → Comes (step_thread set w t o)
  step_comes t None = h
  step_comes t (Some thread) =
      top_comes t thread (take (length thread.frames.items - 1) thread.frames.items)
      (slice_get thread.frames.items (length thread.frames.items - 1))

  issue_comes : (t d : ℕ) (major : Major) (argument : ℕ) (o : Option Thread) (p : Option Device)
      → Comes (issue_on set w t d major argument o p)
  issue_comes t d major argument None p = h
  issue_comes t d major argument (Some thread) None = h
  issue_comes t d major argument (Some thread) (Some device) = if_comes _ _ _ h h

  live_comes : (t n : ℕ) (level : Irql) (thread : Thread) (o : Option Packet)
      → Comes (cancel_of w t n level thread o)
  live_comes t n level thread None = h
  live_comes t n level thread (Some p) = h

  cancel_comes : (t n : ℕ) (level : Option Irql) (o : Option Thread)
      → Comes (cancel_on w t n level o)
  cancel_comes t n level None = h
  cancel_comes t n None (Some thread) = h
  cancel_comes t n (Some level) (Some thread) =
      if_comes _ _ _ (live_comes t n level thread (packet_of w.shared n)) h

  queued_comes : (d : ℕ) (queued : Bool)
      → HasAll devices w.shared.cells w.shared.locks.spin (slice_set w.shared.dpcs d queued)
  queued_comes d queued =
      dpc_written devices w.shared.cells w.shared.locks.spin w.shared.dpcs h d queued

  interrupt_comes : (d : ℕ) (o : Option ℕ) → Comes (interrupt_on w d o)
  interrupt_comes d None = h
  interrupt_comes d (Some routine) = if_comes _ _ _ h (queued_comes d true)

  dpc_comes : (t d : ℕ) (o : Option Thread) (p : Option ℕ) → Comes (dpc_on set w t d o p)
  dpc_comes t d None p = h
  dpc_comes t d (Some thread) None = h
  dpc_comes t d (Some thread) (Some routine) =
      if_comes (not (is_idle thread)) (unchanged w Refused)
      (if is_queued w.shared d then dpc_begun set w t d thread routine else unchanged w Idle) h
      (if_comes (is_queued w.shared d) (dpc_begun set w t d thread routine) (unchanged w Idle)
      (queued_comes d false) h)

  first_comes : (t d : ℕ) (thread : Thread) (routine : ℕ) (start : StartState) (o : Option ℕ)
      → Comes (startio_for set w t d thread routine start o)
  first_comes t d thread routine start None = h
  first_comes t d thread routine start (Some n) = h

  from_comes : (t d : ℕ) (thread : Thread) (routine : ℕ) (o : Option StartState)
      → Comes (startio_from set w t d thread routine o)
  from_comes t d thread routine None = h
  from_comes t d thread routine (Some start) =
      first_comes t d thread routine start (head_of start.start_list)

  startio_comes : (t d : ℕ) (o : Option Thread) (p : Option ℕ)
      → Comes (startio_on set w t d o p)
  startio_comes t d None p = h
  startio_comes t d (Some thread) None = h
  startio_comes t d (Some thread) (Some routine) =
      if_comes _ _ _ (from_comes t d thread routine (start_of w.shared d)) h

  pub event_comes : (e : Event) → Comes (effect set w e)
  event_comes (Issue t d major argument) =
      issue_comes t d major argument (slice_get w.threads t) (slice_get set.devices d)
  event_comes (CancelEvent t n level) =
      cancel_comes t n (irql_of level) (slice_get w.threads t)
  event_comes (Interrupt d) = interrupt_comes d (dpc_of set d)
  event_comes (DpcEvent t d) = dpc_comes t d (slice_get w.threads t) (dpc_of set d)
  event_comes (StartIoEvent t d) = startio_comes t d (slice_get w.threads t) (startio_of set d)
  event_comes (Step t) = step_comes t (slice_get w.threads t)

-- a run
module _ (devices : ℕ) (set : Set) (r : Run) (h : Shaped devices r.world.shared) where
  answered_shaped : (t : ℕ) (c : Change) (a : Answered) → Shaped devices c.world.shared
      → Answers set r t c a → Shaped devices a.run.world.shared
  answered_shaped t c a new (refuses_stopped on) = h
  answered_shaped t c a new (refuses_over on quiet over) = h
  answered_shaped t c a new (goes_on_with on quiet within) = new
  answered_shaped t c a new (stops_for bug on fault) = h
  answered_shaped t c a new (stops_wrong place on is) = h

  set_shaped : (stopped : Bool) (c : Change) → Shaped devices c.world.shared
      → Shaped devices (if stopped then refused r else answered_on set r c None).run.world.shared
  set_shaped true c new = h
  set_shaped false c new = new

  on_thread : (t : ℕ) (e : Event) → Answers set r t (effect set r.world e) (step set r e)
      → Shaped devices (step set r e).run.world.shared
  on_thread t e is =
      answered_shaped t (effect set r.world e) (step set r e)
      (event_comes devices set r.world h e) is

  shaped_step : (e : Event) → Shaped devices (step set r e).run.world.shared
  shaped_step (Issue t d major argument) =
      on_thread t (Issue t d major argument) (answers set r t (Issue t d major argument) refl)
  shaped_step (CancelEvent t n level) =
      on_thread t (CancelEvent t n level) (answers set r t (CancelEvent t n level) refl)
  shaped_step (Interrupt d) =
      set_shaped r.stopped (effect set r.world (Interrupt d))
      (event_comes devices set r.world h (Interrupt d))
  shaped_step (DpcEvent t d) = on_thread t (DpcEvent t d) (answers set r t (DpcEvent t d) refl)
  shaped_step (StartIoEvent t d) =
      on_thread t (StartIoEvent t d) (answers set r t (StartIoEvent t d) refl)
  shaped_step (Step t) = on_thread t (Step t) (answers set r t (Step t) refl)

-- before the first event
begun_shaped : (set : Set) (threads : ℕ)
    → Shaped (length set.devices) (begun set threads).world.shared
begun_shaped set threads =
    record {
      cell_count = length-replicate (length set.devices) blank_cells;
      cell_sizes = each_same HasCells (length set.devices) blank_cells
          (record { plain = refl; paged = refl });
      lock_count = length-replicate (length set.devices) (replicate SPIN_LOCKS None);
      lock_sizes = each_same HasLocks (length set.devices) (replicate SPIN_LOCKS None) refl;
      dpc_count = length-replicate (length set.devices) false;
    }

pub runs_are_shaped : (set : Set) (threads : ℕ) (events : List Event)
    → Shaped (length set.devices) (run set threads events).world.shared
runs_are_shaped set threads events =
    kept_run (λ r. Shaped (length set.devices) r.world.shared) set
    (λ r e h. shaped_step (length set.devices) set r h e) threads events
    (begun_shaped set threads)
