-- Whatever instruction a routine executes: it does to what slots mean what it does to them, if it
-- doesn't go wrong and takes no lock that its thread owns.
use Rattle.std.proofs.Common.{◌≡◌, ℕ, ◌+◌, List, [], ◌∷◌, ◌++◌, length, Option, Some, refl, sym, ◌∙◌, ap, map, nat_lt}
use Rattle.std.specs.Prelude.{option_map, slice_get}
use Rattle.model.specs.declared.event.Lock.{Lock}
use Rattle.model.specs.declared.event.Lock.TheVariants.{SystemCancel}
use Rattle.model.specs.declared.instr.Instr.{Instr}
use Rattle.model.specs.declared.instr.Instr.TheVariants.{Const, Move, Clear, Add, Subtract, JumpIfZero, JumpIfLess, Jump, Loop, End, Load, Store, LoadPaged, StorePaged, Get, Put, Mark, Acquire, Release, AcquireCancel, ReleaseCancel, Insert, Remove, Unlink, Arm, Disarm, IfCancel, Start, Take, Begin, Next, Pass, Call, Complete, IfPending, Ret, Dequeue}
use Rattle.model.specs.declared.limits.TheConstants.{MAX_LOOPS}
use Rattle.model.specs.declared.world.Activation.{Activation}
use Rattle.model.specs.declared.world.Cells.{Cells}
use Rattle.model.specs.declared.world.Frame.{Frame}
use Rattle.model.specs.declared.world.Value.TheVariants.{Blank, Num}
use Rattle.model.specs.Effect.{Outcome, acquire_effect, difference_of, insert_effect, instruction_effect, is_less_at, is_zero_at, load_effect, load_paged_effect, remove_effect, spin_lock, start_effect, begin_effect, next_effect, store_effect, store_paged_effect, sum_of, take_effect, unlink_effect, next_disarmed, dequeue_effect}
use Rattle.model.specs.Queues.{StartState}
use Rattle.model.specs.Set.{Set, cancel_routine_of, lower_of, sort_of}
use Rattle.model.specs.World.{Locks, Shared, innermost, number_in, owner_of, packet_in, queue_of, register, start_of}
use Rattle.laws_runs.proofs.Steps.Words.{lock_taken}
use Rattle.laws_slots.specs.Rep.{MeansShared, meant_frame, meant_start}
use Rattle.laws_slots.specs.Slots.{SlotFrame, SlotShared, slot_queue, slot_start}
use Rattle.laws_slots.specs.SlotStep.{SlotOutcome, acquire_step, instruction_step, key_at, number_at, next_step}
use Rattle.laws_slots.proofs.Keys.{Keyed, found_read, Found}
use Rattle.laws_slots.proofs.Lists.{begins, inserts, nexts, queue_meant, removes, start_meant, starts, takes_out, unlinks, dequeues}
use Rattle.laws_slots.proofs.Local.{b, frees, goes, jumps, loads, loads_paged, numbers, opens_if, sets, stores, stores_paged, takes, turns}
use Rattle.laws_slots.proofs.Outcomes.{GoesRight, MeansOutcome, by_found}
use Rattle.laws_slots.proofs.Returning.{returns}
use Rattle.laws_slots.proofs.Sending.{calls, completes, passes}
use Rattle.laws_slots.proofs.Touching.{Finds, arms, asks, disarms, gets, looks, marks, puts}
use Rattle.laws_slots.proofs.Words.{Tells, number_told, register_meant, tells_both, tells_map}

module _ (name : ℕ → ℕ) (s : SlotShared) (r : Shared) (keyed : Keyed name s r) (set : Set) (t : ℕ)
    (a : Activation) where
  abbrev c : Activation
  c = b name s r keyed.means a

  abbrev means : MeansShared name s r
  means = keyed.means

  abbrev Means : SlotOutcome → Outcome → Type 0
  Means p o = MeansOutcome name s p o

  -- what an operand names
  pub finds : (i : ℕ) → Finds s r (key_at a i) (packet_in r (register c i))
  finds i n is =
      found_read name s r keyed (register a i) n (rw (register_meant name a i) at is)

  reads : (i : ℕ) → Tells (number_in (register c i)) (number_at a i)
  reads i = number_told name a i

  -- what goes by a look-up of cells, of locks, of a queue or of what a device has for StartIo
  by_cells : (p : Option Cells → SlotOutcome) (f : Option Cells → Outcome)
      → ((o : Option Cells) → GoesRight (f o) → Means (p o) (f o))
      → GoesRight (f (slice_get r.cells a.device))
      → Means (p (slice_get s.cells a.device)) (f (slice_get r.cells a.device))
  by_cells p f one =
      by_found name s (p (slice_get s.cells a.device)) f (slice_get s.cells a.device)
      (slice_get r.cells a.device)
      (ap (λ (cells : List Cells). slice_get cells a.device) means.cells)
      (one (slice_get s.cells a.device))

  by_owner : (lock : Lock) (p : Option (Option ℕ) → SlotOutcome) (f : Option (Option ℕ) → Outcome)
      → (GoesRight (f (owner_of s.locks lock))
      → Means (p (owner_of s.locks lock)) (f (owner_of s.locks lock)))
      → GoesRight (f (owner_of r.locks lock))
      → Means (p (owner_of s.locks lock)) (f (owner_of r.locks lock))
  by_owner lock p f one =
      by_found name s (p (owner_of s.locks lock)) f (owner_of s.locks lock) (owner_of r.locks lock)
      (ap (λ (locks : Locks). owner_of locks lock) means.locks) one

  by_queue : (q : ℕ) (p : Option (List ℕ) → SlotOutcome) (f : Option (List ℕ) → Outcome)
      → ((keys : Option (List ℕ)) → GoesRight (f (option_map (map name) keys))
      → Means (p keys) (f (option_map (map name) keys)))
      → GoesRight (f (queue_of r a.device q))
      → Means (p (slot_queue s a.device q)) (f (queue_of r a.device q))
  by_queue q p f one =
      by_found name s (p (slot_queue s a.device q)) f
      (option_map (map name) (slot_queue s a.device q)) (queue_of r a.device q)
      (queue_meant name s r keyed a a.device q) (one (slot_queue s a.device q))

  by_start : (p : Option StartState → SlotOutcome) (f : Option StartState → Outcome)
      → ((start : Option StartState) → GoesRight (f (option_map (meant_start name) start))
      → Means (p start) (f (option_map (meant_start name) start)))
      → GoesRight (f (start_of r a.device))
      → Means (p (slot_start s a.device)) (f (start_of r a.device))
  by_start p f one =
      by_found name s (p (slot_start s a.device)) f
      (option_map (meant_start name) (slot_start s a.device)) (start_of r a.device)
      (start_meant name s r means a.device) (one (slot_start s a.device))

  taken : (lock : Lock) → (owner_of r.locks lock ≡ Some (Some t) → ⊥)
      → GoesRight (acquire_effect r t c lock (owner_of r.locks lock))
      → Means (acquire_step s t a lock (owner_of s.locks lock))
      (acquire_effect r t c lock (owner_of r.locks lock))
  taken lock free =
      by_owner lock (acquire_step s t a lock) (acquire_effect r t c lock)
      (takes name s r means a t lock (owner_of s.locks lock)
      (λ own. free (sym (ap (λ (locks : Locks). owner_of locks lock) means.locks) ∙ own)))

  module _ (under : Option SlotFrame) where
    abbrev below : Option Frame
    below = option_map (meant_frame name) under

    pub executes : (i : Instr)
        → ((lock : Lock) → lock_taken a i ≡ Some lock → owner_of r.locks lock ≡ Some (Some t) → ⊥)
        → ((start : StartState) (k : ℕ) → slot_start s a.device ≡ Some start
        → next_disarmed set a start ≡ Some k → Found s r k (name k))
        → GoesRight (instruction_effect set r t below c i)
        → Means (instruction_step set s t under a i) (instruction_effect set r t below c i)
    executes (Const i n) free waits right = sets name s r means a i (Num n) (Num n) [] refl
    executes (Move i q) free waits right =
        sets name s r means a i (register a q) (register c q) [] (sym (register_meant name a q))
    executes (Clear i) free waits right = sets name s r means a i Blank Blank [] refl
    executes (Add i q) free waits right =
        numbers name s r means a i _ (sum_of c i q) (tells_both _ _ _ _ _ (reads i) (reads q)) right
    executes (Subtract i q) free waits right =
        numbers name s r means a i _ (difference_of c i q)
        (tells_both _ _ _ _ _ (reads i) (reads q)) right
    executes (JumpIfZero i label) free waits right =
        jumps name s r means a label _ (is_zero_at c i) (tells_map _ _ _ (reads i)) right
    executes (JumpIfLess i q label) free waits right =
        jumps name s r means a label _ (is_less_at c i q)
        (tells_both nat_lt _ _ _ _ (reads i) (reads q)) right
    executes (Jump label) free waits right = goes name s r means a _ _ [] refl
    executes (Loop turns) free waits right =
        opens_if name s r means a
        (a.loops.items ++ record { start = a.position + 1; turns = turns } ∷ [])
        (nat_lt (length a.loops.items) MAX_LOOPS) right
    executes End free waits right = turns name s r means a (innermost a) right
    executes (Load i n) free waits right =
        by_cells _ (load_effect r c i n) (loads name s r means a i n) right
    executes (Store n i) free waits right =
        by_cells _ (store_effect r c n (number_in (register c i)))
        (λ o. stores name s r means a n (number_at a i) (number_in (register c i)) o (reads i))
        right
    executes (LoadPaged i n) free waits right =
        by_cells _ (load_paged_effect r c i n) (loads_paged name s r means a i n) right
    executes (StorePaged n i) free waits right =
        by_cells _ (store_paged_effect r c n (number_in (register c i)))
        (λ o. stores_paged name s r means a n (number_at a i) (number_in (register c i)) o
        (reads i))
        right
    executes (Get i q field) free waits right =
        gets name s r keyed a i (key_at a q) field (packet_in r (register c q)) (finds q) right
    executes (Put q i) free waits right =
        puts name s r keyed a (key_at a q) (number_at a i) (number_in (register c i))
        (packet_in r (register c q)) (reads i) (finds q) right
    executes (Mark i) free waits right =
        marks name s r keyed a (key_at a i) (packet_in r (register c i)) (finds i) right
    executes (Acquire lock) free waits right = taken (spin_lock a lock) (free _ refl) right
    executes (Release lock) free waits right =
        frees name s r means a (spin_lock a lock) (owner_of r.locks (spin_lock a lock)) right
    executes AcquireCancel free waits right = taken SystemCancel (free _ refl) right
    executes ReleaseCancel free waits right =
        frees name s r means a SystemCancel (owner_of r.locks SystemCancel) right
    executes (Insert i q) free waits right =
        by_queue q _ (insert_effect r c q (packet_in r (register c i)))
        (λ keys. inserts name s r keyed a q (key_at a i) (packet_in r (register c i)) keys
        (finds i))
        right
    executes (Remove i q label) free waits right =
        by_queue q _ (remove_effect r c i q label) (removes name s r keyed a i q label) right
    executes (Unlink i q) free waits right =
        by_queue q _ (unlink_effect r c q (packet_in r (register c i)))
        (λ keys. unlinks name s r keyed a q (key_at a i) (packet_in r (register c i)) keys
        (finds i))
        right
    executes (Arm i q) free waits right =
        arms name s r keyed a q (key_at a i) (packet_in r (register c i))
        (cancel_routine_of set a.driver q) (finds i) right
    executes (Disarm i label) free waits right =
        disarms name s r keyed a label (key_at a i) (packet_in r (register c i)) (finds i) right
    executes (IfCancel i label) free waits right =
        asks name s r keyed a label (key_at a i) (packet_in r (register c i)) (finds i) right
    executes (Start i) free waits right =
        by_start _ (start_effect set r c (packet_in r (register c i)))
        (λ start. starts name s r keyed a set (key_at a i) (packet_in r (register c i)) start
        (finds i)) right
    executes (Take i label) free waits right =
        by_start _ (take_effect r c i label) (takes_out name s r keyed a i label) right
    executes (Begin i) free waits right =
        by_start _ (begin_effect r c (packet_in r (register c i)))
        (λ start. begins name s r keyed a (key_at a i) (packet_in r (register c i)) start (finds i))
        right
    executes Next free waits right =
        by_found name s (next_step set s a (slot_start s a.device)) (next_effect set r c)
        (option_map (meant_start name) (slot_start s a.device)) (start_of r a.device)
        (start_meant name s r means a.device)
        (nexts name s r keyed a set (slot_start s a.device) waits)
        right
    executes (Dequeue i) free waits right =
        by_start _ (dequeue_effect r c (packet_in r (register c i)))
        (λ start. dequeues name s r keyed a (key_at a i) (packet_in r (register c i)) start
        (finds i)) right
    executes (Pass i) free waits right =
        passes name s r keyed a set (key_at a i) (packet_in r (register c i))
        (lower_of set a.device) (finds i) right
    executes (Call i f) free waits right =
        calls name s r keyed a set f (key_at a i) (packet_in r (register c i))
        (lower_of set a.device) (finds i) right
    executes (Complete i status) free waits right =
        completes name s r keyed a status (key_at a i) (packet_in r (register c i)) (finds i) right
    executes (IfPending i label) free waits right =
        looks name s r keyed a label (key_at a i) (packet_in r (register c i)) (finds i) right
    executes (Ret form) free waits right =
        returns name s r means a under (sort_of set a.driver a.routine) form right
