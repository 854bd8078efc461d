-- Each instruction does to words what it does to slots that they are read as, where it finds what
-- it looks for.
use Rattle.std.proofs.Common.{◌≡◌, ℕ, ◌+◌, ◌-◌, ◌++◌, Bool, List, [], ◌∷◌, Option, None, Some, refl, sym, ap, subst, false, true}
use Rattle.std.specs.Prelude.{◌%◌, ◌^◌, is_none, nat_eq, nat_lt, slice_get, slice_index_or, ◌&&◌}
use Rattle.model.specs.declared.event.Lock.{Lock}
use Rattle.model.specs.declared.event.Lock.TheVariants.{SystemCancel}
use Rattle.model.specs.declared.instr.Field.{Field}
use Rattle.model.specs.declared.instr.Instr.{Instr}
use Rattle.model.specs.declared.instr.Instr.TheVariants.{Const, Move, Clear, Add, Subtract, JumpIfZero, JumpIfLess, Jump, Loop, End, Load, Store, LoadPaged, StorePaged, Get, Put, Mark, Acquire, Release, AcquireCancel, ReleaseCancel, Insert, Remove, Unlink, Arm, Disarm, IfCancel, Start, Take, Begin, Next, Pass, Call, Complete, IfPending, Ret, Dequeue}
use Rattle.model.specs.declared.instr.Return.{Return}
use Rattle.model.specs.declared.instr.Return.TheVariants.{WithStatus, Lower, Continue, Stop, Void}
use Rattle.model.specs.declared.status.Status.{Status}
use Rattle.model.specs.declared.world.Activation.{Activation}
use Rattle.model.specs.declared.world.Cells.{Cells}
use Rattle.model.specs.declared.world.OpenLoop.{OpenLoop}
use Rattle.model.specs.declared.world.Packet.{Packet}
use Rattle.model.specs.declared.world.Value.{Value}
use Rattle.model.specs.declared.world.Value.TheVariants.{Blank, Num, Ref}
use Rattle.model.specs.Effect.{spin_lock, stored, stored_paged}
use Rattle.model.specs.Effect as model
use Rattle.model.specs.Queues.{StartState, inserted, next_started, started, unlinked, with_slot, dequeued}
use Rattle.model.specs.Set.{Set, lower_of, has_cancel}
use Rattle.model.specs.World.{asked_of, at_label, current_location, field_of, innermost, mark_current, next, outer_loops, owner_of, register, with_armer, with_info, with_loops, with_owner, with_register}
use Rattle.laws_slots.specs.Fits.{HasKey, HasNumber, InstructionFits, ReturnFits}
use Rattle.laws_slots.specs.Slots.{SlotFrame, SlotRoutine, SlotShared, SlotWalk, SlotCancel, packet_at, slot_queue, slot_start, with_packet_at, with_slot_cells, with_slot_locks, with_slot_queue, with_slot_start}
use Rattle.laws_slots.specs.SlotStep.{SlotOutcome, difference_at, key_at, number_at, sum_at}
use Rattle.laws_slots.specs.SlotStep as slots
use Rattle.laws_slots.specs.declared.activation.WordActivation.{WordActivation}
use Rattle.laws_slots.specs.Reads.{Paired, ReadsFrame, ReadsValue, in_words}
use Rattle.laws_slots.specs.Words.{WordCancel, WordFrame, WordRoutine, WordWalk, word}
use Rattle.laws_slots.specs.Words as words_of
use Rattle.laws_slots.specs.WordStep.{WordOutcome, acquire_step, arm_step, ask_step, begin_step, call_step, complete_step, disarm_step, end_step, get_step, goes_on, insert_step, instruction_step, is_walk, jump_step, load_paged_step, load_step, look_step, mark_step, next_step, pass_step, put_step, remove_step, return_step, start_step, store_paged_step, store_step, take_from_step, take_step, unlink_step, value_step, start_waiting_step, start_packet_step, next_packet_step, next_waiting_step, dequeue_step}
use Rattle.laws_slots.proofs.Operands.{key_same, number_same, register_reads, status_same}
use Rattle.laws_slots.proofs.WordsOutcomes.{ReadsOutcome, dispatched_reads, goes, goes_by, routine_reads}
use Rattle.laws_slots.proofs.Pairs.{PairedOption, paired_set, paired_skip}
use Rattle.model.specs.declared.set.QueueName.TheVariants.{DeviceQueue}

-- the frame under the one that runs
walk_same : (under : Option SlotFrame) (over : Option WordFrame)
    → PairedOption ReadsFrame under over → is_walk over ≡ slots.is_slot_walk under
walk_same None None h = refl
walk_same (Some (SlotRoutine a)) (Some (WordRoutine x)) h = refl
walk_same (Some (SlotWalk k)) (Some (WordWalk j)) h = refl
walk_same (Some (SlotCancel k n step)) (Some (WordCancel j m other)) h = refl
walk_same _ _ h = absurd h

module _ (s : SlotShared) (a : Activation) (words : List ℕ)
    (h : Paired ReadsValue a.registers words) where
  abbrev b : WordActivation
  b = in_words a words

  abbrev Reads : SlotOutcome → WordOutcome → Type 0
  Reads o p = ReadsOutcome o p

  -- a routine goes on, with its registers as they are or with one written
  on : (r : SlotShared) → Reads (slots.goes_on r (next a)) (goes_on r (words_of.next b))
  on r = goes r (next a) words h

  stays : Reads (slots.goes_on s a) (goes_on s b)
  stays = goes s a words h

  writes : (to : SlotShared) (r : ℕ) (v : Value) (n : ℕ) → ReadsValue v n
      → Reads (slots.value_step to a r v) (value_step to b r n)
  writes to r v n both =
      goes to (next (with_register a r v)) _
      (paired_set ReadsValue a.registers words r v n h both)

  jumps : (to : SlotShared) (label : ℕ) (test : Bool)
      → Reads (slots.jump_step to a label test) (jump_step to b label test)
  jumps to label test =
      goes_by to test (at_label a label) (next a) (words_of.at_label b label) (words_of.next b)
      (goes to (at_label a label) words h) (on to)

  ends : (l : Option OpenLoop) → Reads (slots.end_step s a l) (end_step s b l)
  ends None = stays
  ends (Some l) =
      goes_by s (nat_lt 1 l.turns)
      (at_label
      (with_loops a (outer_loops a ++ record { start = l.start; turns = l.turns - 1 } ∷ []))
      l.start) (next (with_loops a (outer_loops a)))
      (words_of.at_label
      (words_of.with_loops b
      (outer_loops a ++ record { start = l.start; turns = l.turns - 1 } ∷ [])) l.start)
      (words_of.next (words_of.with_loops b (outer_loops a)))
      (goes s
      (at_label
      (with_loops a (outer_loops a ++ record { start = l.start; turns = l.turns - 1 } ∷ []))
      l.start) words h)
      (goes s (next (with_loops a (outer_loops a))) words h)

  -- cells
  loads : (r c : ℕ) (o : Option Cells) → Reads (slots.load_step s a r c o) (load_step s b r c o)
  loads r c None = stays
  loads r c (Some cells) = writes s r (Num (slice_index_or cells.plain c 0)) _ refl

  loads_paged : (r c : ℕ) (o : Option Cells)
      → Reads (slots.load_paged_step s a r c o) (load_paged_step s b r c o)
  loads_paged r c None = stays
  loads_paged r c (Some cells) = writes s r (Num (slice_index_or cells.paged c 0)) _ refl

  stores : (c n : ℕ) (o : Option Cells) → Reads (slots.store_step s a c n o) (store_step s b c n o)
  stores c n None = stays
  stores c n (Some cells) = on (with_slot_cells s a.device (stored cells c n))

  stores_paged : (c n : ℕ) (o : Option Cells)
      → Reads (slots.store_paged_step s a c n o) (store_paged_step s b c n o)
  stores_paged c n None = stays
  stores_paged c n (Some cells) = on (with_slot_cells s a.device (stored_paged cells c n))

  -- locks
  acquires : (t : ℕ) (lock : Lock) (o : Option (Option ℕ))
      → Reads (slots.acquire_step s t a lock o) (acquire_step s t b lock o)
  acquires t lock None = stays
  acquires t lock (Some None) = on (with_slot_locks s (with_owner s.locks lock (Some t)))
  acquires t lock (Some (Some owner)) =
      record {
        shared = refl;
        frames = (routine_reads a words h, tt);
        reply = refl;
        taken = refl;
        told = refl;
      }

  -- packets
  gets : (r : ℕ) (field : Field) (o : Option Packet)
      → Reads (slots.get_step s a r field o) (get_step s b r field o)
  gets r field None = stays
  gets r field (Some p) = writes s r (Num (field_of p field)) _ refl

  puts : (k n : ℕ) (o : Option Packet) → Reads (slots.put_step s a k n o) (put_step s b k n o)
  puts k n None = stays
  puts k n (Some p) = on (with_packet_at s k (with_info p n))

  marks : (k : ℕ) (o : Option Packet) → Reads (slots.mark_step s a k o) (mark_step s b k o)
  marks k None = stays
  marks k (Some p) = on (with_packet_at s k (mark_current p))

  arms : (q k : ℕ) (o : Option Packet) → Reads (slots.arm_step s a q k o) (arm_step s b q k o)
  arms q k None = stays
  arms q k (Some p) = on (with_packet_at s k (with_armer p (Some (model.armer_of a q))))

  disarms : (label k : ℕ) (o : Option Packet)
      → Reads (slots.disarm_step s a label k o) (disarm_step s b label k o)
  disarms label k None = stays
  disarms label k (Some p) =
      jumps (with_packet_at s k (with_armer p None)) label (is_none p.armer)

  asks_flag : (label : ℕ) (o : Option Packet)
      → Reads (slots.ask_step s a label o) (ask_step s b label o)
  asks_flag label None = stays
  asks_flag label (Some p) = jumps s label p.cancel

  looks : (label : ℕ) (o : Option Packet)
      → Reads (slots.look_step s a label o) (look_step s b label o)
  looks label None = stays
  looks label (Some p) = jumps s label p.pending_returned

  -- queues, and what a device has for StartIo
  inserts : (q k : ℕ) (o : Option (List ℕ))
      → Reads (slots.insert_step s a q k o) (insert_step s b q k o)
  inserts q k None = stays
  inserts q k (Some entries) = on (with_slot_queue s a.device q (inserted entries k))

  removes : (r q label : ℕ) (o : Option (List ℕ))
      → Reads (slots.remove_step s a r q label o) (remove_step s b r q label o)
  removes r q label None = stays
  removes r q label (Some []) = goes s (at_label a label) words h
  removes r q label (Some (k ∷ entries)) =
      writes (with_slot_queue s a.device q entries) r (Ref k) k refl

  unlinks : (q k : ℕ) (o : Option (List ℕ))
      → Reads (slots.unlink_step s a q k o) (unlink_step s b q k o)
  unlinks q k None = stays
  unlinks q k (Some entries) = on (with_slot_queue s a.device q (unlinked entries k))

  starts_waiting : (k : ℕ) (start : StartState) (o : Option Packet)
      → Reads (slots.start_waiting_step s a k start o) (start_waiting_step s b k start o)
  starts_waiting k start None = stays
  starts_waiting k start (Some p) =
      on
      (with_slot_start (with_packet_at s k (with_armer p (Some (model.armer_waiting a)))) a.device
      (started start k))

  starts_packet : (k : ℕ) (start : StartState) (waits : Bool)
      → Reads (slots.start_packet_step s a k start waits) (start_packet_step s b k start waits)
  starts_packet k start false = on (with_slot_start s a.device (started start k))
  starts_packet k start true = starts_waiting k start (packet_at s k)

  starts : (set : Set) (k : ℕ) (o : Option StartState)
      → Reads (slots.start_step set s a k o) (start_step set s b k o)
  starts set k None = stays
  starts set k (Some start) =
      starts_packet k start (has_cancel set a.driver DeviceQueue && start.busy)

  takes_from : (r label : ℕ) (start : StartState) (o : Option ℕ)
      → Reads (slots.take_from_step s a r label start o) (take_from_step s b r label start o)
  takes_from r label start None = goes s (at_label a label) words h
  takes_from r label start (Some k) =
      writes (with_slot_start s a.device (with_slot start None)) r (Ref k) k refl

  takes_out : (r label : ℕ) (o : Option StartState)
      → Reads (slots.take_step s a r label o) (take_step s b r label o)
  takes_out r label None = stays
  takes_out r label (Some start) = takes_from r label start start.slot

  begins : (k : ℕ) (o : Option StartState) → Reads (slots.begin_step s a k o) (begin_step s b k o)
  begins k None = stays
  begins k (Some start) = on (with_slot_start s a.device (with_slot start (Some k)))

  next_packet : (start : StartState) (k : ℕ) (o : Option Packet)
      → Reads (slots.next_packet_step s a start k o) (next_packet_step s b start k o)
  next_packet start k None = stays
  next_packet start k (Some p) =
      on
      (with_slot_start (with_packet_at s k (with_armer p None)) a.device (next_started start))

  next_waits : (start : StartState) (o : Option ℕ)
      → Reads (slots.next_waiting_step s a start o) (next_waiting_step s b start o)
  next_waits start None = on (with_slot_start s a.device (next_started start))
  next_waits start (Some k) = next_packet start k (packet_at s k)

  nexts : (set : Set) (o : Option StartState)
      → Reads (slots.next_step set s a o) (next_step set s b o)
  nexts set None = stays
  nexts set (Some start) = next_waits start (model.next_disarmed set a start)

  dequeues : (k : ℕ) (o : Option StartState)
      → Reads (slots.dequeue_step s a k o) (dequeue_step s b k o)
  dequeues k None = stays
  dequeues k (Some start) = on (with_slot_start s a.device (dequeued start k))

  -- packets that are completed, or sent down
  completes : (status : Status) (k : ℕ) (o : Option Packet)
      → Reads (slots.complete_step s a status k o) (complete_step s b status k o)
  completes status k None = stays
  completes status k (Some p) =
      record {
        shared = refl;
        frames = (routine_reads (next a) words h, (refl, tt));
        reply = refl;
        taken = refl;
        told = refl;
      }

  module _ (set : Set) where
    passes : (k : ℕ) (lower : Option ℕ) (o : Option Packet)
        → Reads (slots.pass_step set s a k lower o) (pass_step set s b k lower o)
    passes k None o = stays
    passes k (Some lower) None = stays
    passes k (Some lower) (Some p) =
        record {
          shared = refl;
          frames = (
            routine_reads (next a) words h,
            (
              dispatched_reads set lower (slice_get set.devices lower)
                  (asked_of (current_location p)) k,
              tt,
            ),
          );
          reply = refl;
          taken = refl;
          told = refl;
        }

    calls : (f : Option ℕ) (k : ℕ) (lower : Option ℕ) (o : Option Packet)
        → Reads (slots.call_step set s a f k lower o) (call_step set s b f k lower o)
    calls f k None o = stays
    calls f k (Some lower) None = stays
    calls f k (Some lower) (Some p) =
        record {
          shared = refl;
          frames = (
            routine_reads (next a) words h,
            (
              dispatched_reads set lower (slice_get set.devices lower)
                  (asked_of (current_location p)) k,
              tt,
            ),
          );
          reply = refl;
          taken = refl;
          told = refl;
        }

  module _ (under : Option SlotFrame) (over : Option WordFrame)
      (stand : PairedOption ReadsFrame under over) where
    returns : (form : Return) → ReturnFits a form
        → Reads (slots.return_step s a under form) (return_step s b over form)
    returns (WithStatus status) fits =
        record { shared = refl; frames = tt; reply = refl; taken = refl; told = refl }
    returns (Lower r) fits =
        record {
          shared = refl;
          frames = tt;
          reply = refl;
          taken = refl;
          told = ap (λ (status : Status). Some status) (sym (status_same a words h r fits));
        }
    returns Continue fits =
        record { shared = refl; frames = tt; reply = refl; taken = refl; told = refl }
    returns Stop fits =
        record {
          shared = refl;
          frames = tt;
          reply = refl;
          taken = walk_same under over stand;
          told = refl;
        }
    returns Void fits =
        record { shared = refl; frames = tt; reply = refl; taken = refl; told = refl }

    -- with the word that a register is read from in place of its key, or of its number
    by_key : (r : ℕ) → HasKey s a r → (f : ℕ → SlotOutcome) (p : WordOutcome)
        → Reads (f (word b r)) p → Reads (f (key_at a r)) p
    by_key r has f p = subst (λ (k : ℕ). Reads (f k) p) (sym (key_same a words h s r has))

    by_number : (r : ℕ) → HasNumber a r → (f : ℕ → SlotOutcome) (p : WordOutcome)
        → Reads (f (word b r)) p → Reads (f (number_at a r)) p
    by_number r has f p = subst (λ (n : ℕ). Reads (f n) p) (sym (number_same a words h r has))

    pub instructs : (set : Set) (t : ℕ) (i : Instr) → InstructionFits set s t a i
        → Reads (slots.instruction_step set s t under a i) (instruction_step set s t over b i)
    instructs set t (Const r n) fits = writes s r (Num n) n refl
    instructs set t (Move r q) fits =
        writes s r (register a q) (word b q) (register_reads a words h q)
    instructs set t (Clear r) fits =
        goes s (next (with_register a r Blank)) words
        (paired_skip ReadsValue a.registers words r Blank h (λ n. tt))
    instructs set t (Add r q) fits =
        by_number r fits.0 (λ m. slots.value_step s a r (Num ((m + number_at a q) % 2 ^ 64))) _
        (by_number q fits.1 (λ n. slots.value_step s a r (Num ((word b r + n) % 2 ^ 64))) _
        (writes s r (Num ((word b r + word b q) % 2 ^ 64)) _ refl))
    instructs set t (Subtract r q) fits =
        by_number r fits.0
        (λ m. slots.value_step s a r (Num ((m + (2 ^ 64 - number_at a q)) % 2 ^ 64))) _
        (by_number q fits.1
        (λ n. slots.value_step s a r (Num ((word b r + (2 ^ 64 - n)) % 2 ^ 64))) _
        (writes s r (Num ((word b r + (2 ^ 64 - word b q)) % 2 ^ 64)) _ refl))
    instructs set t (JumpIfZero r label) fits =
        by_number r fits (λ n. slots.jump_step s a label (nat_eq n 0)) _
        (jumps s label (nat_eq (word b r) 0))
    instructs set t (JumpIfLess r q label) fits =
        by_number r fits.0 (λ m. slots.jump_step s a label (nat_lt m (number_at a q))) _
        (by_number q fits.1 (λ n. slots.jump_step s a label (nat_lt (word b r) n)) _
        (jumps s label (nat_lt (word b r) (word b q))))
    instructs set t (Jump label) fits = goes s (at_label a label) words h
    instructs set t (Loop turns) fits =
        goes s
        (next
        (with_loops a (a.loops.items ++ record { start = a.position + 1; turns = turns } ∷ [])))
        words h
    instructs set t End fits = ends (innermost a)
    instructs set t (Load r c) fits = loads r c (slice_get s.cells a.device)
    instructs set t (Store c r) fits =
        by_number r fits.1 (λ n. slots.store_step s a c n (slice_get s.cells a.device)) _
        (stores c (word b r) (slice_get s.cells a.device))
    instructs set t (LoadPaged r c) fits = loads_paged r c (slice_get s.cells a.device)
    instructs set t (StorePaged c r) fits =
        by_number r fits.1 (λ n. slots.store_paged_step s a c n (slice_get s.cells a.device)) _
        (stores_paged c (word b r) (slice_get s.cells a.device))
    instructs set t (Get r q field) fits =
        by_key q fits (λ k. slots.get_step s a r field (packet_at s k)) _
        (gets r field (packet_at s (word b q)))
    instructs set t (Put q r) fits =
        by_key q fits.0 (λ k. slots.put_step s a k (number_at a r) (packet_at s k)) _
        (by_number r fits.1
        (λ n. slots.put_step s a (word b q) n (packet_at s (word b q))) _
        (puts (word b q) (word b r) (packet_at s (word b q))))
    instructs set t (Mark r) fits =
        by_key r fits (λ k. slots.mark_step s a k (packet_at s k)) _
        (marks (word b r) (packet_at s (word b r)))
    instructs set t (Acquire lock) fits =
        acquires t (spin_lock a lock) (owner_of s.locks (spin_lock a lock))
    instructs set t (Release lock) fits =
        on (with_slot_locks s (with_owner s.locks (spin_lock a lock) None))
    instructs set t AcquireCancel fits =
        acquires t SystemCancel (owner_of s.locks SystemCancel)
    instructs set t ReleaseCancel fits =
        on (with_slot_locks s (with_owner s.locks SystemCancel None))
    instructs set t (Insert r q) fits =
        by_key r fits.0 (λ k. slots.insert_step s a q k (slot_queue s a.device q)) _
        (inserts q (word b r) (slot_queue s a.device q))
    instructs set t (Remove r q label) fits = removes r q label (slot_queue s a.device q)
    instructs set t (Unlink r q) fits =
        by_key r fits.0 (λ k. slots.unlink_step s a q k (slot_queue s a.device q)) _
        (unlinks q (word b r) (slot_queue s a.device q))
    instructs set t (Arm r q) fits =
        by_key r fits (λ k. slots.arm_step s a q k (packet_at s k)) _
        (arms q (word b r) (packet_at s (word b r)))
    instructs set t (Disarm r label) fits =
        by_key r fits (λ k. slots.disarm_step s a label k (packet_at s k)) _
        (disarms label (word b r) (packet_at s (word b r)))
    instructs set t (IfCancel r label) fits =
        by_key r fits (λ k. slots.ask_step s a label (packet_at s k)) _
        (asks_flag label (packet_at s (word b r)))
    instructs set t (Start r) fits =
        by_key r fits.0 (λ k. slots.start_step set s a k (slot_start s a.device)) _
        (starts set (word b r) (slot_start s a.device))
    instructs set t (Take r label) fits = takes_out r label (slot_start s a.device)
    instructs set t (Begin r) fits =
        by_key r fits.0 (λ k. slots.begin_step s a k (slot_start s a.device)) _
        (begins (word b r) (slot_start s a.device))
    instructs set t Next fits = nexts set (slot_start s a.device)
    instructs set t (Dequeue r) fits =
        by_key r fits.0 (λ k. slots.dequeue_step s a k (slot_start s a.device)) _
        (dequeues (word b r) (slot_start s a.device))
    instructs set t (Pass r) fits =
        by_key r fits.0
        (λ k. slots.pass_step set s a k (lower_of set a.device) (packet_at s k)) _
        (passes set (word b r) (lower_of set a.device) (packet_at s (word b r)))
    instructs set t (Call r f) fits =
        by_key r fits.0
        (λ k. slots.call_step set s a f k (lower_of set a.device) (packet_at s k)) _
        (calls set f (word b r) (lower_of set a.device) (packet_at s (word b r)))
    instructs set t (Complete r status) fits =
        by_key r fits (λ k. slots.complete_step s a status k (packet_at s k)) _
        (completes status (word b r) (packet_at s (word b r)))
    instructs set t (IfPending r label) fits =
        by_key r fits (λ k. slots.look_step s a label (packet_at s k)) _
        (looks label (packet_at s (word b r)))
    instructs set t (Ret form) fits = returns form fits
