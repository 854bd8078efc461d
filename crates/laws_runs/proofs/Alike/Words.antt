-- An instruction does the same to routines that a machine may not tell apart: it takes nothing from
-- registers in which they differ.
use Rattle.laws_runs.proofs.Common.{refl, Bool, List, None, Option, Some, [], false, if◌then◌else◌, is_none, length, nat_eq, not, slice_get, true, ℕ, ◌&&◌, ◌∷◌, ◌≡◌, Acquires, Action, acquire_effect, arm_effect, arm_packet, ask_effect, ask_packet, asks, begin_effect, call_effect, call_packet, complete_effect, complete_packet, dequeue_effect, disarm_effect, disarm_packet, dispatched, end_effect, get_effect, get_packet, goes_on, goes_wrong, insert_effect, jump_effect, load_effect, load_paged_effect, look_effect, look_packet, mark_effect, mark_packet, next_disarmed, next_effect, next_packet, next_waiting, number_effect, pass_effect, pass_packet, put_effect, put_packet, release_effect, remove_effect, remove_from, start_effect, start_packet, start_waiting, store_effect, store_paged_effect, take_effect, take_from, unlink_effect, waits, kind_removed, StartState, has_room_for_next, has_room_to_start, Set, cancel_routine_of, flow_of, has_cancel, label_of, Shared, asked_of, at_label, current_location, innermost, next, packet_of, with_loops, Own, Lock, Field, Instr, End, Get, Load, LoadPaged, Loop, Remove, Take, Declared, DeviceQueue, Status, Activation, Cells, Routine, Walk, OpenLoop, Packet, Value, Ref, States, Runs, state_of, has_next, keeps_registers, numbered_by}
use Rattle.laws_runs.proofs.Alike.Frames.{AlikeFrames, AlikeActivation, alike_under}
use Rattle.laws_runs.proofs.Alike.Outcomes.{AlikeOutcome, alike_self, stays, wrong, on_next, on_set, on_kept, on_number, on_label, on_turn}
use Rattle.laws_runs.proofs.Alike.Registers.{SameRegisters}

module _ (set : Set) (states : States) (s : Shared) (t : ℕ) (a : Activation) (us : List Value)
    (long : length us ≡ length a.registers)
    (h : SameRegisters (state_of states a).kinds us a.registers) where
  abbrev b : Activation
  b = record a { registers = us }

  -- registers
  pub numbers : (i : Instr) (run : Runs set states s a i) (r : ℕ) → has_next (flow_of i) ≡ true
      → numbered_by i ≡ Some r → (o : Option ℕ)
      → AlikeOutcome set states (number_effect s b r o) (number_effect s a r o)
  numbers i run r leads is None = wrong set states s a us long h
  numbers i run r leads is (Some n) =
      record { others = refl; frames = (on_number set states s a us long h i run leads r n is, tt) }

  jumps_or_not : (i : Instr) (run : Runs set states s a i) (label : ℕ) → has_next (flow_of i) ≡ true
      → keeps_registers i ≡ true → label_of i ≡ Some label → (jumped : Bool)
      → AlikeActivation set states None (if jumped then at_label b label else next b)
      (if jumped then at_label a label else next a)
  jumps_or_not i run label leads keeps labelled true =
      on_label set states s a us long h i run label labelled
  jumps_or_not i run label leads keeps labelled false =
      on_kept set states s a us long h i run leads keeps

  pub jumps : (i : Instr) (run : Runs set states s a i) (label : ℕ) → has_next (flow_of i) ≡ true
      → keeps_registers i ≡ true → label_of i ≡ Some label → (o : Option Bool)
      → AlikeOutcome set states (jump_effect s b label o) (jump_effect s a label o)
  jumps i run label leads keeps labelled None = wrong set states s a us long h
  jumps i run label leads keeps labelled (Some jumped) =
      record {
        others = refl;
        frames = (jumps_or_not i run label leads keeps labelled jumped, tt);
      }

  -- loops
  pub opens : (turns : ℕ) (run : Runs set states s a (Loop turns)) (few : Bool)
      (loops : List OpenLoop)
      → AlikeOutcome set states
      (if few then goes_on s (next (with_loops b loops)) [] else goes_wrong s b)
      (if few then goes_on s (next (with_loops a loops)) [] else goes_wrong s a)
  opens turns run false loops = wrong set states s a us long h
  opens turns run true loops =
      record {
        others = refl;
        frames = (
          on_next set states s a us long h (Loop turns) run refl loops us a.registers long
              h,
          tt,
        );
      }

  pub closes : (run : Runs set states s a End) (o : Option OpenLoop) → innermost a ≡ o
      → AlikeOutcome set states (end_effect s b o) (end_effect s a o)
  closes run None inner = wrong set states s a us long h
  closes run (Some l) inner =
      record { others = refl; frames = (on_turn set states s a us long h run l inner, tt) }

  -- cells
  pub loads : (r c : ℕ) (run : Runs set states s a (Load r c)) (o : Option Cells)
      → AlikeOutcome set states (load_effect s b r c o) (load_effect s a r c o)
  loads r c run None = wrong set states s a us long h
  loads r c run (Some cells) =
      record {
        others = refl;
        frames = (on_number set states s a us long h (Load r c) run refl r _ refl, tt);
      }

  pub loads_paged : (r c : ℕ) (run : Runs set states s a (LoadPaged r c)) (o : Option Cells)
      → AlikeOutcome set states (load_paged_effect s b r c o) (load_paged_effect s a r c o)
  loads_paged r c run None = wrong set states s a us long h
  loads_paged r c run (Some cells) =
      record {
        others = refl;
        frames = (on_number set states s a us long h (LoadPaged r c) run refl r _ refl, tt);
      }

  module _ (i : Instr) (run : Runs set states s a i) (leads : has_next (flow_of i) ≡ true)
      (keeps : keeps_registers i ≡ true) where
    kept : AlikeActivation set states None (next b) (next a)
    kept = on_kept set states s a us long h i run leads keeps

    pub stores : (c : ℕ) (o : Option ℕ) (cells : Option Cells)
        → AlikeOutcome set states (store_effect s b c o cells) (store_effect s a c o cells)
    stores c (Some n) (Some cells) = record { others = refl; frames = (kept, tt) }
    stores c _ _ = wrong set states s a us long h

    pub stores_paged : (c : ℕ) (o : Option ℕ) (cells : Option Cells)
        → AlikeOutcome set states (store_paged_effect s b c o cells)
        (store_paged_effect s a c o cells)
    stores_paged c (Some n) (Some cells) = record { others = refl; frames = (kept, tt) }
    stores_paged c _ _ = wrong set states s a us long h

    -- packets
    puts_into : (info n : ℕ) (o : Option Packet)
        → AlikeOutcome set states (put_packet s b info n o) (put_packet s a info n o)
    puts_into info n None = record { others = refl; frames = (kept, tt) }
    puts_into info n (Some p) = record { others = refl; frames = (kept, tt) }

    pub puts : (o n : Option ℕ) → AlikeOutcome set states (put_effect s b o n) (put_effect s a o n)
    puts (Some info) (Some n) = puts_into info n (packet_of s n)
    puts _ _ = wrong set states s a us long h

    marks_one : (n : ℕ) (o : Option Packet)
        → AlikeOutcome set states (mark_packet s b n o) (mark_packet s a n o)
    marks_one n None = record { others = refl; frames = (kept, tt) }
    marks_one n (Some p) = record { others = refl; frames = (kept, tt) }

    pub marks : (n : Option ℕ) → AlikeOutcome set states (mark_effect s b n) (mark_effect s a n)
    marks None = wrong set states s a us long h
    marks (Some n) = marks_one n (packet_of s n)

    arms_one : (q n : ℕ) (o : Option Packet)
        → AlikeOutcome set states (arm_packet s b q n o) (arm_packet s a q n o)
    arms_one q n None = record { others = refl; frames = (kept, tt) }
    arms_one q n (Some p) = record { others = refl; frames = (kept, tt) }

    pub arms : (q : ℕ) (n cancel : Option ℕ)
        → AlikeOutcome set states (arm_effect s b q n cancel) (arm_effect s a q n cancel)
    arms q (Some n) (Some cancel) = arms_one q n (packet_of s n)
    arms q _ _ = wrong set states s a us long h

    -- locks
    takes_or_waits : (actions : List Action) (own : Bool)
        → AlikeOutcome set states (if own then goes_on s (next b) actions else waits s b)
        (if own then goes_on s (next a) actions else waits s a)
    takes_or_waits actions true = record { others = refl; frames = (kept, tt) }
    takes_or_waits actions false =
        record { others = refl; frames = (stays set states s a us long h, tt) }

    pub takes : (lock : Lock) (o : Option (Option ℕ))
        → AlikeOutcome set states (acquire_effect s t b lock o) (acquire_effect s t a lock o)
    takes lock None = wrong set states s a us long h
    takes lock (Some None) = record { others = refl; frames = (kept, tt) }
    takes lock (Some (Some owner)) = takes_or_waits (Acquires lock ∷ []) (nat_eq owner t)

    pub frees : (lock : Lock) (o : Option (Option ℕ))
        → AlikeOutcome set states (release_effect s b lock o) (release_effect s a lock o)
    frees lock None = wrong set states s a us long h
    frees lock (Some owner) = record { others = refl; frames = (kept, tt) }

    -- queues
    pub inserts_one : (q : ℕ) (n : Option ℕ) (o : Option (List ℕ))
        → AlikeOutcome set states (insert_effect s b q n o) (insert_effect s a q n o)
    inserts_one q (Some n) (Some entries) = record { others = refl; frames = (kept, tt) }
    inserts_one q _ _ = wrong set states s a us long h

    pub unlinks_one : (q : ℕ) (n : Option ℕ) (o : Option (List ℕ))
        → AlikeOutcome set states (unlink_effect s b q n o) (unlink_effect s a q n o)
    unlinks_one q (Some n) (Some entries) = record { others = refl; frames = (kept, tt) }
    unlinks_one q _ _ = wrong set states s a us long h

    starts_waiting : (n : ℕ) (start : StartState) (p : Option Packet)
        → AlikeOutcome set states
        (record (start_waiting s b n start p) { full = not (has_room_to_start start) })
        (record (start_waiting s a n start p) { full = not (has_room_to_start start) })
    starts_waiting n start None = record { others = refl; frames = (kept, tt) }
    starts_waiting n start (Some p) = record { others = refl; frames = (kept, tt) }

    starts_by : (n : ℕ) (start : StartState) (waits : Bool)
        → AlikeOutcome set states
        (record (start_packet s b n start waits) { full = not (has_room_to_start start) })
        (record (start_packet s a n start waits) { full = not (has_room_to_start start) })
    starts_by n start false = record { others = refl; frames = (kept, tt) }
    starts_by n start true = starts_waiting n start (packet_of s n)

    pub starts_one : (n : Option ℕ) (o : Option StartState)
        → AlikeOutcome set states (start_effect set s b n o) (start_effect set s a n o)
    starts_one (Some n) (Some start) =
        starts_by n start (has_cancel set a.driver DeviceQueue && start.busy)
    starts_one _ _ = wrong set states s a us long h

    pub begins_one : (n : Option ℕ) (o : Option StartState)
        → AlikeOutcome set states (begin_effect s b n o) (begin_effect s a n o)
    begins_one (Some n) (Some start) = record { others = refl; frames = (kept, tt) }
    begins_one _ _ = wrong set states s a us long h

    next_packets : (start : StartState) (n : ℕ) (p : Option Packet)
        → AlikeOutcome set states
        (record (next_packet s b start n p) { full = not (has_room_for_next start) })
        (record (next_packet s a start n p) { full = not (has_room_for_next start) })
    next_packets start n None = record { others = refl; frames = (kept, tt) }
    next_packets start n (Some p) = record { others = refl; frames = (kept, tt) }

    next_by : (start : StartState) (o : Option ℕ)
        → AlikeOutcome set states
        (record (next_waiting s b start o) { full = not (has_room_for_next start) })
        (record (next_waiting s a start o) { full = not (has_room_for_next start) })
    next_by start None = record { others = refl; frames = (kept, tt) }
    next_by start (Some n) = next_packets start n (packet_of s n)

    pub starts_next_one : (o : Option StartState)
        → AlikeOutcome set states (next_effect set s b o) (next_effect set s a o)
    starts_next_one None = wrong set states s a us long h
    starts_next_one (Some start) = next_by start (next_disarmed set a start)

    pub dequeues_one : (n : Option ℕ) (o : Option StartState)
        → AlikeOutcome set states (dequeue_effect s b n o) (dequeue_effect s a n o)
    dequeues_one (Some n) (Some start) = record { others = refl; frames = (kept, tt) }
    dequeues_one _ _ = wrong set states s a us long h

    -- a packet is completed, or sent down
    completes_one : (status : Status) (n : ℕ) (o : Option Packet)
        → AlikeOutcome set states (complete_packet s b status n o) (complete_packet s a status n o)
    completes_one status n None = record { others = refl; frames = (kept, tt) }
    completes_one status n (Some p) =
        record {
          others = refl;
          frames = (
            alike_under set states s None (Some (Walk n)) (Routine (next b))
                (Routine (next a)) refl kept,
            ((λ live. refl), tt),
          );
        }

    pub completes : (status : Status) (n : Option ℕ)
        → AlikeOutcome set states (complete_effect s b status n) (complete_effect s a status n)
    completes status None = wrong set states s a us long h
    completes status (Some n) = completes_one status n (packet_of s n)

    asked : (r : Shared) (lower : ℕ) (p : Packet) (n : ℕ)
        → AlikeFrames set states r None (asks set b lower p n) (asks set a lower p n)
    asked r lower p n =
        let below : Activation = dispatched set lower (slice_get set.devices lower)
        (asked_of (current_location p)) n in (
          alike_under set states r None (Some (Routine below)) (Routine (next b))
              (Routine (next a)) refl kept,
          (alike_self set states r None (Routine below), tt),
        )

    passes_one : (lower n : ℕ) (o : Option Packet)
        → AlikeOutcome set states (pass_packet set s b lower n o) (pass_packet set s a lower n o)
    passes_one lower n None = record { others = refl; frames = (kept, tt) }
    passes_one lower n (Some p) = record { others = refl; frames = asked s lower p n }

    pub passes : (n lower : Option ℕ)
        → AlikeOutcome set states (pass_effect set s b n lower) (pass_effect set s a n lower)
    passes (Some n) (Some lower) = passes_one lower n (packet_of s n)
    passes _ _ = wrong set states s a us long h

    calls_one : (f : Option ℕ) (lower n : ℕ) (o : Option Packet)
        → AlikeOutcome set states (call_packet set s b f lower n o)
        (call_packet set s a f lower n o)
    calls_one f lower n None = record { others = refl; frames = (kept, tt) }
    calls_one f lower n (Some p) = record { others = refl; frames = asked s lower p n }

    pub calls : (f n lower : Option ℕ)
        → AlikeOutcome set states (call_effect set s b f n lower) (call_effect set s a f n lower)
    calls f (Some n) (Some lower) = calls_one f lower n (packet_of s n)
    calls f _ _ = wrong set states s a us long h

    -- what looks at a packet jumps or doesn't
    module _ (label : ℕ) (labelled : label_of i ≡ Some label) where
      disarms_one : (n : ℕ) (o : Option Packet)
          → AlikeOutcome set states (disarm_packet s b label n o) (disarm_packet s a label n o)
      disarms_one n None = record { others = refl; frames = (kept, tt) }
      disarms_one n (Some p) =
          record {
            others = refl;
            frames = (jumps_or_not i run label leads keeps labelled (is_none p.armer), tt);
          }

      pub disarms : (n : Option ℕ)
          → AlikeOutcome set states (disarm_effect s b label n) (disarm_effect s a label n)
      disarms None = wrong set states s a us long h
      disarms (Some n) = disarms_one n (packet_of s n)

      asks_one : (n : ℕ) (o : Option Packet)
          → AlikeOutcome set states (ask_packet s b label n o) (ask_packet s a label n o)
      asks_one n None = record { others = refl; frames = (kept, tt) }
      asks_one n (Some p) =
          record {
            others = refl;
            frames = (jumps_or_not i run label leads keeps labelled p.cancel, tt);
          }

      pub asks_for : (n : Option ℕ)
          → AlikeOutcome set states (ask_effect s b label n) (ask_effect s a label n)
      asks_for None = wrong set states s a us long h
      asks_for (Some n) = asks_one n (packet_of s n)

      looks_one : (n : ℕ) (o : Option Packet)
          → AlikeOutcome set states (look_packet s b label n o) (look_packet s a label n o)
      looks_one n None = record { others = refl; frames = (kept, tt) }
      looks_one n (Some p) =
          record {
            others = refl;
            frames = (jumps_or_not i run label leads keeps labelled p.pending_returned, tt);
          }

      pub looks : (n : Option ℕ)
          → AlikeOutcome set states (look_effect s b label n) (look_effect s a label n)
      looks None = wrong set states s a us long h
      looks (Some n) = looks_one n (packet_of s n)

  -- a field of a packet is read, which is live
  gets_one : (r q : ℕ) (field : Field) (run : Runs set states s a (Get r q field)) (n : ℕ)
      (o : Option Packet) → (o ≡ None → ⊥)
      → AlikeOutcome set states (get_packet s b r field n o) (get_packet s a r field n o)
  gets_one r q field run n None live = absurd (live refl)
  gets_one r q field run n (Some p) live =
      record {
        others = refl;
        frames = (on_number set states s a us long h (Get r q field) run refl r _ refl, tt);
      }

  pub gets : (r q : ℕ) (field : Field) (run : Runs set states s a (Get r q field)) (o : Option ℕ)
      → ((n : ℕ) → o ≡ Some n → packet_of s n ≡ None → ⊥)
      → AlikeOutcome set states (get_effect s b r field o) (get_effect s a r field o)
  gets r q field run None live = wrong set states s a us long h
  gets r q field run (Some n) live = gets_one r q field run n (packet_of s n) (live n refl)

  -- a packet comes into a register
  removes_from : (r q label : ℕ) (run : Runs set states s a (Remove r q label)) (o : List ℕ)
      → AlikeOutcome set states (remove_from s b r q label o) (remove_from s a r q label o)
  removes_from r q label run [] =
      record {
        others = refl;
        frames = (on_label set states s a us long h (Remove r q label) run label refl, tt);
      }
  removes_from r q label run (n ∷ entries) =
      record {
        others = refl;
        frames = (
          on_set set states s a us long h (Remove r q label) run refl r
              (kind_removed (cancel_routine_of set a.driver q) (Declared q)) (Ref n) (Ref n) refl
              (λ some. refl),
          tt,
        );
      }

  pub removes : (r q label : ℕ) (run : Runs set states s a (Remove r q label)) (o : Option (List ℕ))
      → AlikeOutcome set states (remove_effect s b r q label o) (remove_effect s a r q label o)
  removes r q label run None = wrong set states s a us long h
  removes r q label run (Some entries) = removes_from r q label run entries

  takes_from : (r label : ℕ) (run : Runs set states s a (Take r label)) (start : StartState)
      (o : Option ℕ)
      → AlikeOutcome set states (take_from s b r label start o) (take_from s a r label start o)
  takes_from r label run start None =
      record {
        others = refl;
        frames = (on_label set states s a us long h (Take r label) run label refl, tt);
      }
  takes_from r label run start (Some n) =
      record {
        others = refl;
        frames = (
          on_set set states s a us long h (Take r label) run refl r Own (Ref n) (Ref n) refl
              (λ some. refl),
          tt,
        );
      }

  pub takes_out : (r label : ℕ) (run : Runs set states s a (Take r label)) (o : Option StartState)
      → AlikeOutcome set states (take_effect s b r label o) (take_effect s a r label o)
  takes_out r label run None = wrong set states s a us long h
  takes_out r label run (Some start) = takes_from r label run start start.slot
