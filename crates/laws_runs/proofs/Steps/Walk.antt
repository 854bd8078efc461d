-- Every step has one of the shapes: the one walk over the instructions and the I/O manager's steps.
use Rattle.laws_runs.proofs.Prelude.{ap, inl, inr, refl, sym, ◌∙◌, cond_both, eqb_tells, length-set, Bool, List, None, Option, Some, [], false, if◌then◌else◌, is_none, length, nat_eq, nat_lt, not, option_map, slice_get, slice_set, true, ℕ, ◌+◌, ◌∷◌, ◌≡◌, Acquires, Continues, Exchanges, Executes, Marks, Touches, Ups, Outcome, acquire_effect, arm_effect, arm_packet, ask_effect, ask_packet, begin_effect, call_effect, call_packet, cancel_step, complete_effect, complete_packet, completes_with, dequeue_effect, difference_of, disarm_effect, disarm_packet, end_effect, frame_effect, get_effect, get_packet, goes_on, goes_on_cancelling, goes_wrong, insert_effect, instruction_effect, is_less_at, is_zero_at, jump_effect, leaves, let_on, load_effect, load_paged_effect, look_effect, look_packet, mark_effect, mark_packet, next_disarmed, next_effect, next_packet, next_waiting, number_effect, pass_effect, pass_packet, put_effect, put_packet, release_effect, remove_effect, remove_from, return_effect, return_lower, routine_effect, routine_of_device, sort_of_completion, spin_lock, start_effect, start_packet, start_waiting, store_effect, store_paged_effect, sum_of, take_effect, take_from, unlink_effect, waits, walk_packet, is_completion, StartState, has_room_for_next, has_room_to_start, Set, cancel_routine_named, cancel_routine_of, instruction_at, label_of, lower_of, sort_of, Shared, at_label, completion_of, current_location, innermost, is_marked, left_location, mark_current, moved_up, next, number_in, owner_of, packet_in, packet_of, queue_of, register, start_of, status_in, with_armer, with_packet, Lock, SystemCancel, Waited, Field, Instr, Acquire, AcquireCancel, Add, Arm, Begin, Call, Clear, Complete, Const, Dequeue, Disarm, End, Get, IfCancel, IfPending, Insert, Jump, JumpIfLess, JumpIfZero, Load, LoadPaged, Loop, Mark, Move, Next, Pass, Put, Release, ReleaseCancel, Remove, Ret, Start, Store, StorePaged, Subtract, Take, Unlink, Return, Continue, Stop, Void, WithStatus, MAX_LOOPS, Sort, Cancel, Dispatch, Dpc, Hold, Propagate, StartIo, Status, Activation, Armer, CancelStep, AcquireStep, Exchange, SetFlag, Cells, Completion, Frame, CancelFrame, Routine, Walk, OpenLoop, Packet, Value}
use Rattle.model.specs.declared.instr.Return.TheVariants.{Lower}
use Rattle.model.specs.Action.{Leaves}
use Rattle.model.specs.Effect.{of_both, loop_effect, cell_of, stored, stored_paged, acquire_owned, continued, given_back, stopped, lent_to, lending, cancel_acquires, cancel_flags, cancel_calls, cancel_armed, cancel_exchanges, walk_up, walk_out, walk_from}
use Rattle.laws_runs.proofs.Steps.Words.{Computing, work_of, goes_next, number_operand, second_operand, keeps_registers, numbered_by, lock_taken, lock_freed}
use Rattle.laws_runs.proofs.Steps.Comes.{Executing, Exchanged, Reads, Lacks, no_instruction, no_number, no_packet, no_room, no_loop, no_cells, none_taken, none_freed, no_queue, no_start, no_cancel, no_lower, no_status, no_form, Written, keeps_all, makes_number, moves_over, makes_blank, onward, jumping, inserts, removes, removes_none, unlinks, starts_packet, takes_out, takes_none, puts_in, starts_next, arms_for, disarms, Cancels, takes_cancel, retakes_cancel, awaits_cancel, flags_gone, sets_flag, exchanges_gone, finds_empty, finds_none, calls_cancel, Comes, errs, awaits_lock, computes, opens_loop, turns_loop, pages, touches_gone, looks_at, writes_info, marks_packet, exchanges, takes_lock, retakes_lock, frees_lock, works_on_queues, completes_packet, completes_gone, passes_down, calls_down, returns_status, lets_go, lets_walk, resumes_walk, resumes_gone, resumes_none, stops_walk, stops_none, ends_startio, ends_dpc, ends_cancel, walks_gone, walks_to, lends_to, walks_up, carries_up, tops_out, cancels, waits_armed, dequeues_packet, works_on_waiting, starts_gone, arms_waiting, disarms_next}

module _ (set : Set) (s : Shared) (t : ℕ) (under : Option Frame) (a : Activation) where
  abbrev ComesTo : Outcome → Type 0
  ComesTo o = Comes set s t under (Routine a) o

  -- registers and cells alone
  straight : (i : Instr) (registers : List Value) → Executing set a i → work_of i ≡ Computing
      → goes_next i ≡ true
      → Written a i registers
      → ComesTo (goes_on s (record a { position = a.position + 1; registers = registers }) [])
  straight i registers at work on written =
      computes a i _ false s.cells at work (onward registers on written) refl

  jumps : (i : Instr) (label : ℕ) → Executing set a i → work_of i ≡ Computing
      → label_of i ≡ Some label
      → ComesTo (goes_on s (at_label a label) [])
  jumps i label at work to = computes a i _ true s.cells at work (jumping label to) refl

  -- one of two numbers isn't there
  of_two : (i : Instr) (r q : ℕ) → Executing set a i → number_operand i ≡ Some r
      → second_operand i ≡ Some q → {A : Type 0} → (f : ℕ → ℕ → A) (m n : Option ℕ)
      → number_in (register a r) ≡ m
      → number_in (register a q) ≡ n → of_both f m n ≡ None → Lacks set s a
  of_two i r q at first second f None n here there none = no_number i r at (inl first) here
  of_two i r q at first second f (Some x) None here there none = no_number i q at (inr second) there
  of_two i r q at first second f (Some x) (Some y) here there none = cc

  number : (i : Instr) (r : ℕ) (o : Option ℕ) → Executing set a i → work_of i ≡ Computing
      → goes_next i ≡ true
      → numbered_by i ≡ Some r → (o ≡ None → Lacks set s a) → ComesTo (number_effect s a r o)
  number i r None at work on to lacks = errs a (lacks refl)
  number i r (Some n) at work on to lacks = straight i _ at work on (makes_number i r n to)

  jump : (i : Instr) (label : ℕ) (o : Option Bool) → Executing set a i → work_of i ≡ Computing
      → goes_next i ≡ true
      → label_of i ≡ Some label → keeps_registers i ≡ true → (o ≡ None → Lacks set s a)
      → ComesTo (jump_effect s a label o)
  jump i label None at work on to keeps lacks = errs a (lacks refl)
  jump i label (Some true) at work on to keeps lacks = jumps i label at work to
  jump i label (Some false) at work on to keeps lacks =
      straight i a.registers at work on (keeps_all i keeps)

  zero_lacks : (r label : ℕ) (o : Option ℕ) → Executing set a (JumpIfZero r label)
      → number_in (register a r) ≡ o
      → option_map (λ n. nat_eq n 0) o ≡ None → Lacks set s a
  zero_lacks r label None at here none = no_number (JumpIfZero r label) r at (inl refl) here
  zero_lacks r label (Some n) at here none = cc

  opens : (turns : ℕ) → Executing set a (Loop turns) → ComesTo (loop_effect s a turns)
  opens turns at =
      cond_both (nat_lt (length a.loops.items) MAX_LOOPS) _ (goes_wrong s a) (λ o. ComesTo o)
      (λ room. opens_loop a turns at room) (λ full. errs a (no_room turns at full))

  turns : (o : Option OpenLoop) → Executing set a End → innermost a ≡ o → ComesTo (end_effect s a o)
  turns None at inner = errs a (no_loop at inner)
  turns (Some l) at inner = turns_loop a l at inner

  load : (r c : ℕ) (o : Option Cells) → Executing set a (Load r c) → slice_get s.cells a.device ≡ o
      → ComesTo (load_effect s a r c o)
  load r c None at there = errs a (no_cells (Load r c) at refl there)
  load r c (Some cells) at there =
      straight (Load r c) _ at refl refl (makes_number (Load r c) r _ refl)

  load_paged : (r c : ℕ) (o : Option Cells) → Executing set a (LoadPaged r c)
      → slice_get s.cells a.device ≡ o
      → ComesTo (load_paged_effect s a r c o)
  load_paged r c None at there = errs a (no_cells (LoadPaged r c) at refl there)
  load_paged r c (Some cells) at there =
      pages a (LoadPaged r c) _ (cell_of a c) s.cells at refl
      (onward _ refl (makes_number (LoadPaged r c) r _ refl)) refl

  store : (c r : ℕ) (n : Option ℕ) (o : Option Cells) → Executing set a (Store c r)
      → number_in (register a r) ≡ n
      → slice_get s.cells a.device ≡ o → ComesTo (store_effect s a c n o)
  store c r None o at here there = errs a (no_number (Store c r) r at (inl refl) here)
  store c r (Some n) None at here there = errs a (no_cells (Store c r) at refl there)
  store c r (Some n) (Some cells) at here there =
      computes a (Store c r) (next a) false (slice_set s.cells a.device (stored cells c n)) at refl
      (onward a.registers refl (keeps_all (Store c r) refl))
      (length-set s.cells a.device (stored cells c n))

  store_paged : (c r : ℕ) (n : Option ℕ) (o : Option Cells) → Executing set a (StorePaged c r)
      → number_in (register a r) ≡ n → slice_get s.cells a.device ≡ o
      → ComesTo (store_paged_effect s a c n o)
  store_paged c r None o at here there = errs a (no_number (StorePaged c r) r at (inl refl) here)
  store_paged c r (Some n) None at here there = errs a (no_cells (StorePaged c r) at refl there)
  store_paged c r (Some n) (Some cells) at here there =
      pages a (StorePaged c r) (next a) (cell_of a c)
      (slice_set s.cells a.device (stored_paged cells c n)) at refl
      (onward a.registers refl (keeps_all (StorePaged c r) refl))
      (length-set s.cells a.device (stored_paged cells c n))

  gets_from : (r q : ℕ) (field : Field) (n : ℕ) (o : Option Packet)
      → Executing set a (Get r q field) → Reads s a q n
      → packet_of s n ≡ o → ComesTo (get_packet s a r field n o)
  gets_from r q field n None at reads there =
      touches_gone a (Get r q field) q n at refl refl refl reads there
  gets_from r q field n (Some p) at reads there =
      looks_at a (Get r q field) _ false q n p at refl
      (onward _ refl (makes_number (Get r q field) r _ refl)) refl reads
      there refl

  gets : (r q : ℕ) (field : Field) (o : Option ℕ) → Executing set a (Get r q field)
      → packet_in s (register a q) ≡ o → ComesTo (get_effect s a r field o)
  gets r q field None at reads = errs a (no_packet (Get r q field) q at refl reads)
  gets r q field (Some n) at reads = gets_from r q field n (packet_of s n) at reads refl

  puts_into : (q r info n : ℕ) (o : Option Packet) → Executing set a (Put q r) → Reads s a q n
      → packet_of s n ≡ o
      → number_in (register a r) ≡ Some info → ComesTo (put_packet s a info n o)
  puts_into q r info n None at reads there here =
      touches_gone a (Put q r) q n at refl refl refl reads there
  puts_into q r info n (Some p) at reads there here = writes_info a q r n p info at reads there here

  puts : (q r : ℕ) (x o : Option ℕ) → Executing set a (Put q r) → number_in (register a r) ≡ x
      → packet_in s (register a q) ≡ o → ComesTo (put_effect s a x o)
  puts q r None o at here reads = errs a (no_number (Put q r) r at (inl refl) here)
  puts q r (Some info) None at here reads = errs a (no_packet (Put q r) q at refl reads)
  puts q r (Some info) (Some n) at here reads =
      puts_into q r info n (packet_of s n) at reads refl here

  marks_in : (r n : ℕ) (o : Option Packet) → Executing set a (Mark r) → Reads s a r n
      → packet_of s n ≡ o
      → ComesTo (mark_packet s a n o)
  marks_in r n None at reads there = touches_gone a (Mark r) r n at refl refl refl reads there
  marks_in r n (Some p) at reads there = marks_packet a r n p at reads there

  marks : (r : ℕ) (o : Option ℕ) → Executing set a (Mark r) → packet_in s (register a r) ≡ o
      → ComesTo (mark_effect s a o)
  marks r None at reads = errs a (no_packet (Mark r) r at refl reads)
  marks r (Some n) at reads = marks_in r n (packet_of s n) at reads refl

  takes_owned : (i : Instr) (lock : Lock) (o : Option ℕ) → Executing set a i
      → lock_taken a i ≡ Some lock
      → owner_of s.locks lock ≡ Some o → ComesTo (acquire_owned s t a lock o)
  takes_owned i lock None at is there = takes_lock a i lock at is there
  takes_owned i lock (Some owner) at is there =
      cond_both (nat_eq owner t) (goes_on s (next a) (Acquires lock ∷ [])) (waits s a)
      (λ o. ComesTo o)
      (λ own. elim (eqb_tells owner t) [
        | inl g ↦ retakes_lock a i lock at is (there ∙ ap (λ x. Some (Some x)) g.1)
        | inr g ↦ cc
      ]) (λ other. awaits_lock a i lock owner at is there other)

  takes : (i : Instr) (lock : Lock) (o : Option (Option ℕ)) → Executing set a i
      → lock_taken a i ≡ Some lock
      → owner_of s.locks lock ≡ o → ComesTo (acquire_effect s t a lock o)
  takes i lock None at is there = errs a (none_taken i lock at is there)
  takes i lock (Some o) at is there = takes_owned i lock o at is there

  frees : (i : Instr) (lock : Lock) (o : Option (Option ℕ)) → Executing set a i
      → lock_freed a i ≡ Some lock
      → owner_of s.locks lock ≡ o → ComesTo (release_effect s a lock o)
  frees i lock None at is there = errs a (none_freed i lock at is there)
  frees i lock (Some o) at is there = frees_lock a i lock o at is there

  -- the queues of the device, and what it has for StartIo
  inserted_in : (r q : ℕ) (o : Option ℕ) (entries : Option (List ℕ)) → Executing set a (Insert r q)
      → packet_in s (register a r) ≡ o → queue_of s a.device q ≡ entries
      → ComesTo (insert_effect s a q o entries)
  inserted_in r q None entries at reads there = errs a (no_packet (Insert r q) r at refl reads)
  inserted_in r q (Some n) None at reads there = errs a (no_queue (Insert r q) q at refl there)
  inserted_in r q (Some n) (Some entries) at reads there =
      works_on_queues a (Insert r q) _ _ _ _ _ at (inserts r q n entries reads there)

  removed_from : (r q label : ℕ) (entries : List ℕ) → Executing set a (Remove r q label)
      → queue_of s a.device q ≡ Some entries → ComesTo (remove_from s a r q label entries)
  removed_from r q label [] at there =
      works_on_queues a (Remove r q label) _ _ _ _ _ at (removes_none r q label there)
  removed_from r q label (n ∷ entries) at there =
      works_on_queues a (Remove r q label) _ _ _ _ _ at (removes r q label n entries there)

  removed_in : (r q label : ℕ) (entries : Option (List ℕ)) → Executing set a (Remove r q label)
      → queue_of s a.device q ≡ entries → ComesTo (remove_effect s a r q label entries)
  removed_in r q label None at there = errs a (no_queue (Remove r q label) q at refl there)
  removed_in r q label (Some entries) at there = removed_from r q label entries at there

  unlinked_in : (r q : ℕ) (o : Option ℕ) (entries : Option (List ℕ)) → Executing set a (Unlink r q)
      → packet_in s (register a r) ≡ o → queue_of s a.device q ≡ entries
      → ComesTo (unlink_effect s a q o entries)
  unlinked_in r q None entries at reads there = errs a (no_packet (Unlink r q) r at refl reads)
  unlinked_in r q (Some n) None at reads there = errs a (no_queue (Unlink r q) q at refl there)
  unlinked_in r q (Some n) (Some entries) at reads there =
      works_on_queues a (Unlink r q) _ _ _ _ _ at (unlinks r q n entries reads there)

  -- the cancel word of a packet, and its cancel flag
  armed_in : (r q routine n : ℕ) (o : Option Packet) → Executing set a (Arm r q)
      → cancel_routine_of set a.driver q ≡ Some routine → Reads s a r n → packet_of s n ≡ o
      → ComesTo (arm_packet s a q n o)
  armed_in r q routine n None at is reads there =
      touches_gone a (Arm r q) r n at refl refl refl reads there
  armed_in r q routine n (Some p) at is reads there =
      exchanges a (Arm r q) (next a) false r n p _ at refl
      (onward a.registers refl (keeps_all (Arm r q) refl)) refl reads there
      (arms_for r q routine is)

  arms : (r q : ℕ) (o routine : Option ℕ) → Executing set a (Arm r q)
      → packet_in s (register a r) ≡ o → cancel_routine_of set a.driver q ≡ routine
      → ComesTo (arm_effect s a q o routine)
  arms r q None routine at reads is = errs a (no_packet (Arm r q) r at refl reads)
  arms r q (Some n) None at reads is = errs a (no_cancel r q at is)
  arms r q (Some n) (Some routine) at reads is =
      armed_in r q routine n (packet_of s n) at is reads refl

  disarmed_in : (r label n : ℕ) (o : Option Packet) → Executing set a (Disarm r label)
      → Reads s a r n → packet_of s n ≡ o → ComesTo (disarm_packet s a label n o)
  disarmed_in r label n None at reads there =
      touches_gone a (Disarm r label) r n at refl refl refl reads there
  disarmed_in r label n (Some p) at reads there =
      disarmed_to (is_none p.armer) (disarms r label)
    where
      disarmed_to : (empty : Bool) → Exchanged set a p (Disarm r label) empty None
          → ComesTo
          (goes_on (with_packet s n (with_armer p None))
          (if empty then at_label a label else next a)
          (Touches n ∷ Exchanges n false ∷ []))
      disarmed_to true how =
          exchanges a (Disarm r label) _ true r n p None at refl (jumping label refl) refl reads
          there
          how
      disarmed_to false how =
          exchanges a (Disarm r label) _ false r n p None at refl
          (onward a.registers refl (keeps_all (Disarm r label) refl)) refl reads there how

  disarmed : (r label : ℕ) (o : Option ℕ) → Executing set a (Disarm r label)
      → packet_in s (register a r) ≡ o → ComesTo (disarm_effect s a label o)
  disarmed r label None at reads = errs a (no_packet (Disarm r label) r at refl reads)
  disarmed r label (Some n) at reads = disarmed_in r label n (packet_of s n) at reads refl

  asks_in : (r label n : ℕ) (o : Option Packet) → Executing set a (IfCancel r label) → Reads s a r n
      → packet_of s n ≡ o → ComesTo (ask_packet s a label n o)
  asks_in r label n None at reads there =
      touches_gone a (IfCancel r label) r n at refl refl refl reads there
  asks_in r label n (Some p) at reads there =
      cond_both p.cancel (at_label a label) (next a) (λ b. ComesTo (goes_on s b (Touches n ∷ [])))
      (λ is. looks_at a (IfCancel r label) _ true r n p at refl (jumping label refl) refl reads
      there (sym is))
      (λ isnt. looks_at a (IfCancel r label) _ false r n p at refl
      (onward a.registers refl (keeps_all (IfCancel r label) refl)) refl reads there (sym isnt))

  asks_flag : (r label : ℕ) (o : Option ℕ) → Executing set a (IfCancel r label)
      → packet_in s (register a r) ≡ o → ComesTo (ask_effect s a label o)
  asks_flag r label None at reads = errs a (no_packet (IfCancel r label) r at refl reads)
  asks_flag r label (Some n) at reads = asks_in r label n (packet_of s n) at reads refl

  started_armed : (r n : ℕ) (start : StartState) (p : Option Packet) → Executing set a (Start r)
      → Reads s a r n → start_of s a.device ≡ Some start → waits_armed set a start ≡ true
      → packet_of s n ≡ p
      → ComesTo (record (start_waiting s a n start p) { full = not (has_room_to_start start) })
  started_armed r n start None at reads there armed here =
      works_on_queues a (Start r) _ _ _ _ _ at (starts_packet r n start reads there (inr here))
  started_armed r n start (Some p) at reads there armed here =
      works_on_waiting a (Start r) _ n p _ _ at here (arms_waiting r n start reads there armed)

  started_by : (r n : ℕ) (start : StartState) (b : Bool) → Executing set a (Start r)
      → Reads s a r n → start_of s a.device ≡ Some start → waits_armed set a start ≡ b
      → ComesTo (record (start_packet s a n start b) { full = not (has_room_to_start start) })
  started_by r n start false at reads there is =
      works_on_queues a (Start r) _ _ _ _ _ at (starts_packet r n start reads there (inl is))
  started_by r n start true at reads there is =
      started_armed r n start (packet_of s n) at reads there is refl

  started_in : (r : ℕ) (o : Option ℕ) (start : Option StartState) → Executing set a (Start r)
      → packet_in s (register a r) ≡ o → start_of s a.device ≡ start
      → ComesTo (start_effect set s a o start)
  started_in r None start at reads there = errs a (no_packet (Start r) r at refl reads)
  started_in r (Some n) None at reads there = errs a (no_start (Start r) at refl there)
  started_in r (Some n) (Some start) at reads there =
      started_by r n start (waits_armed set a start) at reads there refl

  taken_from : (r label : ℕ) (start : StartState) (slot : Option ℕ) → Executing set a (Take r label)
      → start_of s a.device ≡ Some start → start.slot ≡ slot
      → ComesTo (take_from s a r label start slot)
  taken_from r label start None at there slot =
      works_on_queues a (Take r label) _ _ _ _ _ at (takes_none r label start there slot)
  taken_from r label start (Some n) at there slot =
      works_on_queues a (Take r label) _ _ _ _ _ at (takes_out r label n start there slot)

  taken_in : (r label : ℕ) (start : Option StartState) → Executing set a (Take r label)
      → start_of s a.device ≡ start → ComesTo (take_effect s a r label start)
  taken_in r label None at there = errs a (no_start (Take r label) at refl there)
  taken_in r label (Some start) at there = taken_from r label start start.slot at there refl

  begun_in : (r : ℕ) (o : Option ℕ) (start : Option StartState) → Executing set a (Begin r)
      → packet_in s (register a r) ≡ o → start_of s a.device ≡ start
      → ComesTo (begin_effect s a o start)
  begun_in r None start at reads there = errs a (no_packet (Begin r) r at refl reads)
  begun_in r (Some n) None at reads there = errs a (no_start (Begin r) at refl there)
  begun_in r (Some n) (Some start) at reads there =
      works_on_queues a (Begin r) _ _ _ _ _ at (puts_in r n start reads there)

  next_armed : (start : StartState) (n : ℕ) (p : Option Packet) → Executing set a Next
      → start_of s a.device ≡ Some start → next_disarmed set a start ≡ Some n → packet_of s n ≡ p
      → ComesTo (record (next_packet s a start n p) { full = not (has_room_for_next start) })
  next_armed start n None at there first here =
      works_on_queues a Next _ _ _ _ _ at (starts_gone n start there first here)
  next_armed start n (Some p) at there first here =
      works_on_waiting a Next _ n p _ _ at here (disarms_next n start there first)

  next_by : (start : StartState) (o : Option ℕ) → Executing set a Next
      → start_of s a.device ≡ Some start → next_disarmed set a start ≡ o
      → ComesTo (record (next_waiting s a start o) { full = not (has_room_for_next start) })
  next_by start None at there is =
      works_on_queues a Next _ _ _ _ _ at (starts_next start there is)
  next_by start (Some n) at there is = next_armed start n (packet_of s n) at there is refl

  next_in : (start : Option StartState) → Executing set a Next → start_of s a.device ≡ start
      → ComesTo (next_effect set s a start)
  next_in None at there = errs a (no_start Next at refl there)
  next_in (Some start) at there = next_by start (next_disarmed set a start) at there refl

  dequeued_in : (r : ℕ) (o : Option ℕ) (start : Option StartState) → Executing set a (Dequeue r)
      → packet_in s (register a r) ≡ o → start_of s a.device ≡ start
      → ComesTo (dequeue_effect s a o start)
  dequeued_in r None start at reads there = errs a (no_packet (Dequeue r) r at refl reads)
  dequeued_in r (Some n) None at reads there = errs a (no_start (Dequeue r) at refl there)
  dequeued_in r (Some n) (Some start) at reads there =
      works_on_queues a (Dequeue r) _ _ _ _ _ at (dequeues_packet r n start reads there)

  completes_in : (r : ℕ) (status : Status) (n : ℕ) (o : Option Packet)
      → Executing set a (Complete r status)
      → Reads s a r n → packet_of s n ≡ o → ComesTo (complete_packet s a status n o)
  completes_in r status n None at reads there = completes_gone a r status n at reads there
  completes_in r status n (Some p) at reads there = completes_packet a r status n p at reads there

  completes : (r : ℕ) (status : Status) (o : Option ℕ) → Executing set a (Complete r status)
      → packet_in s (register a r) ≡ o → ComesTo (complete_effect s a status o)
  completes r status None at reads = errs a (no_packet (Complete r status) r at refl reads)
  completes r status (Some n) at reads = completes_in r status n (packet_of s n) at reads refl

  passes_in : (r lower n : ℕ) (o : Option Packet) → Executing set a (Pass r) → Reads s a r n
      → packet_of s n ≡ o
      → lower_of set a.device ≡ Some lower → ComesTo (pass_packet set s a lower n o)
  passes_in r lower n None at reads there down =
      touches_gone a (Pass r) r n at refl refl refl reads there
  passes_in r lower n (Some p) at reads there down = passes_down a r n p lower at reads there down

  passes : (r : ℕ) (o lower : Option ℕ) → Executing set a (Pass r) → packet_in s (register a r) ≡ o
      → lower_of set a.device ≡ lower → ComesTo (pass_effect set s a o lower)
  passes r None lower at reads down = errs a (no_packet (Pass r) r at refl reads)
  passes r (Some n) None at reads down = errs a (no_lower (Pass r) at refl down)
  passes r (Some n) (Some lower) at reads down =
      passes_in r lower n (packet_of s n) at reads refl down

  calls_in : (r : ℕ) (f : Option ℕ) (lower n : ℕ) (o : Option Packet) → Executing set a (Call r f)
      → Reads s a r n
      → packet_of s n ≡ o → lower_of set a.device ≡ Some lower
      → ComesTo (call_packet set s a f lower n o)
  calls_in r f lower n None at reads there down =
      touches_gone a (Call r f) r n at refl refl refl reads there
  calls_in r f lower n (Some p) at reads there down = calls_down a r f n p lower at reads there down

  calls : (r : ℕ) (f o lower : Option ℕ) → Executing set a (Call r f)
      → packet_in s (register a r) ≡ o
      → lower_of set a.device ≡ lower → ComesTo (call_effect set s a f o lower)
  calls r f None lower at reads down = errs a (no_packet (Call r f) r at refl reads)
  calls r f (Some n) None at reads down = errs a (no_lower (Call r f) at refl down)
  calls r f (Some n) (Some lower) at reads down =
      calls_in r f lower n (packet_of s n) at reads refl down

  looks_in : (r label n : ℕ) (o : Option Packet) → Executing set a (IfPending r label)
      → Reads s a r n
      → packet_of s n ≡ o → ComesTo (look_packet s a label n o)
  looks_in r label n None at reads there =
      touches_gone a (IfPending r label) r n at refl refl refl reads there
  looks_in r label n (Some p) at reads there =
      cond_both p.pending_returned (at_label a label) (next a)
      (λ b. ComesTo (goes_on s b (Touches n ∷ [])))
      (λ is. looks_at a (IfPending r label) _ true r n p at refl (jumping label refl) refl reads
      there (sym is))
      (λ isnt. looks_at a (IfPending r label) _ false r n p at refl
      (onward a.registers refl (keeps_all (IfPending r label) refl)) refl reads there (sym isnt))

  looks : (r label : ℕ) (o : Option ℕ) → Executing set a (IfPending r label)
      → packet_in s (register a r) ≡ o
      → ComesTo (look_effect s a label o)
  looks r label None at reads = errs a (no_packet (IfPending r label) r at refl reads)
  looks r label (Some n) at reads = looks_in r label n (packet_of s n) at reads refl

  returns_lower : (r : ℕ) (o : Option Status) → Executing set a (Ret (Lower r))
      → sort_of set a.driver a.routine ≡ Dispatch → status_in (register a r) ≡ o
      → ComesTo (return_lower s a o)
  returns_lower r None at sort there = errs a (no_status (Lower r) at sort refl there)
  returns_lower r (Some status) at sort there = returns_status a (Lower r) status at sort there

-- a completion routine lets the completion go on that stands under it, or stops it
module _ (set : Set) (s : Shared) (t : ℕ) (a : Activation) where
  lets : (under : Option Frame) → Executing set a (Ret Continue)
      → sort_of set a.driver a.routine ≡ Propagate
      → Comes set s t under (Routine a) (continued s under)
  lets None at sort = lets_go a at sort refl
  lets (Some (Routine b)) at sort = lets_go a at sort refl
  lets (Some (Walk n)) at sort = lets_walk a n at sort
  lets (Some (CancelFrame c)) at sort = lets_go a at sort refl

  resumes : (n : ℕ) (o : Option Packet) → Executing set a (Ret Continue)
      → sort_of set a.driver a.routine ≡ Hold → packet_of s n ≡ o
      → Comes set s t (Some (Walk n)) (Routine a)
      (leaves (given_back s n o) [] (Executes ∷ Touches n ∷ Continues n ∷ []))
  resumes n None at sort there = resumes_gone a n at sort there
  resumes n (Some p) at sort there = resumes_walk a n p at sort there

  lets_held : (under : Option Frame) → Executing set a (Ret Continue)
      → sort_of set a.driver a.routine ≡ Hold → Comes set s t under (Routine a) (let_on s under)
  lets_held None at sort = resumes_none a at sort refl
  lets_held (Some (Routine b)) at sort = resumes_none a at sort refl
  lets_held (Some (Walk n)) at sort = resumes n (packet_of s n) at sort refl
  lets_held (Some (CancelFrame c)) at sort = resumes_none a at sort refl

  stops : (under : Option Frame) → Executing set a (Ret Stop)
      → is_completion (sort_of set a.driver a.routine) ≡ true
      → Comes set s t under (Routine a) (stopped s under)
  stops None at sort = stops_none a at sort refl
  stops (Some (Routine b)) at sort = stops_none a at sort refl
  stops (Some (Walk n)) at sort = stops_walk a n at sort
  stops (Some (CancelFrame c)) at sort = stops_none a at sort refl

returns : (set : Set) (s : Shared) (t : ℕ) (under : Option Frame) (a : Activation) (sort : Sort)
    (form : Return)
    → Executing set a (Ret form) → sort_of set a.driver a.routine ≡ sort
    → Comes set s t under (Routine a) (return_effect s a under sort form)
returns set s t under a Dispatch (WithStatus status) at is =
    returns_status a (WithStatus status) status at is refl
returns set s t under a Dispatch (Lower r) at is =
    returns_lower set s t under a r (status_in (register a r)) at is refl
returns set s t under a Dispatch Continue at is = errs a (no_form Continue at (rw is refl))
returns set s t under a Dispatch Stop at is = errs a (no_form Stop at (rw is refl))
returns set s t under a Dispatch Void at is = errs a (no_form Void at (rw is refl))
returns set s t under a StartIo (WithStatus status) at is =
    errs a (no_form (WithStatus status) at (rw is refl))
returns set s t under a StartIo (Lower r) at is = errs a (no_form (Lower r) at (rw is refl))
returns set s t under a StartIo Continue at is = errs a (no_form Continue at (rw is refl))
returns set s t under a StartIo Stop at is = errs a (no_form Stop at (rw is refl))
returns set s t under a StartIo Void at is = ends_startio a at is
returns set s t under a Dpc (WithStatus status) at is =
    errs a (no_form (WithStatus status) at (rw is refl))
returns set s t under a Dpc (Lower r) at is = errs a (no_form (Lower r) at (rw is refl))
returns set s t under a Dpc Continue at is = errs a (no_form Continue at (rw is refl))
returns set s t under a Dpc Stop at is = errs a (no_form Stop at (rw is refl))
returns set s t under a Dpc Void at is = ends_dpc a at is
returns set s t under a Propagate (WithStatus status) at is =
    errs a (no_form (WithStatus status) at (rw is refl))
returns set s t under a Propagate (Lower r) at is = errs a (no_form (Lower r) at (rw is refl))
returns set s t under a Propagate Continue at is = lets set s t a under at is
returns set s t under a Propagate Stop at is = stops set s t a under at (rw is refl)
returns set s t under a Propagate Void at is = errs a (no_form Void at (rw is refl))
returns set s t under a Hold (WithStatus status) at is =
    errs a (no_form (WithStatus status) at (rw is refl))
returns set s t under a Hold (Lower r) at is = errs a (no_form (Lower r) at (rw is refl))
returns set s t under a Hold Continue at is = lets_held set s t a under at is
returns set s t under a Hold Stop at is = stops set s t a under at (rw is refl)
returns set s t under a Hold Void at is = errs a (no_form Void at (rw is refl))
returns set s t under a Cancel (WithStatus status) at is =
    errs a (no_form (WithStatus status) at (rw is refl))
returns set s t under a Cancel (Lower r) at is = errs a (no_form (Lower r) at (rw is refl))
returns set s t under a Cancel Continue at is = errs a (no_form Continue at (rw is refl))
returns set s t under a Cancel Stop at is = errs a (no_form Stop at (rw is refl))
returns set s t under a Cancel Void at is = ends_cancel a at is

executes : (set : Set) (s : Shared) (t : ℕ) (under : Option Frame) (a : Activation) (i : Instr)
    → Executing set a i
    → Comes set s t under (Routine a) (instruction_effect set s t under a i)
executes set s t under a (Const r n) at =
    straight set s t under a (Const r n) _ at refl refl (makes_number (Const r n) r n refl)
executes set s t under a (Move r q) at =
    straight set s t under a (Move r q) _ at refl refl (moves_over r q)
executes set s t under a (Clear r) at =
    straight set s t under a (Clear r) _ at refl refl (makes_blank r)
executes set s t under a (Add r q) at =
    number set s t under a (Add r q) r (sum_of a r q) at refl refl refl
    (of_two set s t under a (Add r q) r q at refl refl _ (number_in (register a r))
    (number_in (register a q)) refl refl)
executes set s t under a (Subtract r q) at =
    number set s t under a (Subtract r q) r (difference_of a r q) at refl refl refl
    (of_two set s t under a (Subtract r q) r q at refl refl _ (number_in (register a r))
    (number_in (register a q)) refl refl)
executes set s t under a (JumpIfZero r label) at =
    jump set s t under a (JumpIfZero r label) label (is_zero_at a r) at refl refl refl refl
    (zero_lacks set s t under a r label (number_in (register a r)) at refl)
executes set s t under a (JumpIfLess r q label) at =
    jump set s t under a (JumpIfLess r q label) label (is_less_at a r q) at refl refl refl refl
    (of_two set s t under a (JumpIfLess r q label) r q at refl refl _ (number_in (register a r))
    (number_in (register a q)) refl refl)
executes set s t under a (Jump label) at = jumps set s t under a (Jump label) label at refl refl
executes set s t under a (Loop count) at = opens set s t under a count at
executes set s t under a End at = turns set s t under a (innermost a) at refl
executes set s t under a (Load r c) at =
    load set s t under a r c (slice_get s.cells a.device) at refl
executes set s t under a (Store c r) at =
    store set s t under a c r (number_in (register a r)) (slice_get s.cells a.device) at refl refl
executes set s t under a (LoadPaged r c) at =
    load_paged set s t under a r c (slice_get s.cells a.device) at refl
executes set s t under a (StorePaged c r) at =
    store_paged set s t under a c r (number_in (register a r)) (slice_get s.cells a.device) at refl
    refl
executes set s t under a (Get r q field) at =
    gets set s t under a r q field (packet_in s (register a q)) at refl
executes set s t under a (Put q r) at =
    puts set s t under a q r (number_in (register a r)) (packet_in s (register a q)) at refl refl
executes set s t under a (Mark r) at = marks set s t under a r (packet_in s (register a r)) at refl
executes set s t under a (Acquire l) at =
    takes set s t under a (Acquire l) (spin_lock a l) (owner_of s.locks (spin_lock a l)) at refl
    refl
executes set s t under a (Release l) at =
    frees set s t under a (Release l) (spin_lock a l) (owner_of s.locks (spin_lock a l)) at refl
    refl
executes set s t under a AcquireCancel at =
    takes set s t under a AcquireCancel SystemCancel (owner_of s.locks SystemCancel) at refl refl
executes set s t under a ReleaseCancel at =
    frees set s t under a ReleaseCancel SystemCancel (owner_of s.locks SystemCancel) at refl refl
executes set s t under a (Insert r q) at =
    inserted_in set s t under a r q (packet_in s (register a r)) (queue_of s a.device q) at refl
    refl
executes set s t under a (Remove r q label) at =
    removed_in set s t under a r q label (queue_of s a.device q) at refl
executes set s t under a (Unlink r q) at =
    unlinked_in set s t under a r q (packet_in s (register a r)) (queue_of s a.device q) at refl
    refl
executes set s t under a (Arm r q) at =
    arms set s t under a r q (packet_in s (register a r)) (cancel_routine_of set a.driver q) at refl
    refl
executes set s t under a (Disarm r label) at =
    disarmed set s t under a r label (packet_in s (register a r)) at refl
executes set s t under a (IfCancel r label) at =
    asks_flag set s t under a r label (packet_in s (register a r)) at refl
executes set s t under a (Start r) at =
    started_in set s t under a r (packet_in s (register a r)) (start_of s a.device) at refl refl
executes set s t under a (Take r label) at =
    taken_in set s t under a r label (start_of s a.device) at refl
executes set s t under a (Begin r) at =
    begun_in set s t under a r (packet_in s (register a r)) (start_of s a.device) at refl refl
executes set s t under a Next at = next_in set s t under a (start_of s a.device) at refl
executes set s t under a (Dequeue r) at =
    dequeued_in set s t under a r (packet_in s (register a r)) (start_of s a.device) at refl refl
executes set s t under a (Pass r) at =
    passes set s t under a r (packet_in s (register a r)) (lower_of set a.device) at refl refl
executes set s t under a (Call r f) at =
    calls set s t under a r f (packet_in s (register a r)) (lower_of set a.device) at refl refl
executes set s t under a (Complete r status) at =
    completes set s t under a r status (packet_in s (register a r)) at refl
executes set s t under a (IfPending r label) at =
    looks set s t under a r label (packet_in s (register a r)) at refl
executes set s t under a (Ret form) at =
    returns set s t under a (sort_of set a.driver a.routine) form at refl

routine_comes : (set : Set) (s : Shared) (t : ℕ) (under : Option Frame) (a : Activation)
    (o : Option Instr)
    → instruction_at set a.driver a.routine a.position ≡ o
    → Comes set s t under (Routine a) (routine_effect set s t under a o)
routine_comes set s t under a None at = errs a (no_instruction at)
routine_comes set s t under a (Some i) at = executes set s t under a i at

-- a step of IoCancelIrp
module _ (set : Set) (s : Shared) (t n : ℕ) where
  cancel_taken : (o : Option ℕ) → s.locks.system_cancel ≡ o
      → Cancels set s t n AcquireStep (cancel_acquires s t n o)
  cancel_taken None there = takes_cancel (ap (λ (x : Option ℕ). Some x) there)
  cancel_taken (Some owner) there =
      cond_both (nat_eq owner t)
      (leaves s (goes_on_cancelling n SetFlag) (Acquires SystemCancel ∷ []))
      (record (leaves s (goes_on_cancelling n AcquireStep) []) { reply = Waited })
      (λ o. Cancels set s t n AcquireStep o)
      (λ own. elim (eqb_tells owner t) [
        | inl g ↦ retakes_cancel (ap (λ (x : Option ℕ). Some x) there ∙ ap (λ x. Some (Some x)) g.1)
        | inr g ↦ cc
      ]) (λ other. awaits_cancel owner (ap (λ (x : Option ℕ). Some x) there) other)

  cancel_flagged : (o : Option Packet) → packet_of s n ≡ o
      → Cancels set s t n SetFlag (cancel_flags s n o)
  cancel_flagged None there = flags_gone there
  cancel_flagged (Some p) there = sets_flag p there

  cancel_called : (p : Packet) (armer : Armer) (o : Option ℕ) → packet_of s n ≡ Some p
      → p.armer ≡ Some armer
      → cancel_routine_named set (routine_of_device (slice_get set.devices armer.device))
      armer.queue
      ≡ o
      → Cancels set s t n Exchange
      (cancel_calls (with_packet s n (with_armer p None)) n armer
      (routine_of_device (slice_get set.devices armer.device)) o)
  cancel_called p armer None there word named = finds_none p armer there word named
  cancel_called p armer (Some routine) there word named =
      calls_cancel p armer routine there word named

  cancel_found : (p : Packet) (o : Option Armer) → packet_of s n ≡ Some p → p.armer ≡ o
      → Cancels set s t n Exchange (cancel_armed set (with_packet s n (with_armer p None)) n o)
  cancel_found p None there word = finds_empty p there word
  cancel_found p (Some armer) there word =
      cancel_called p armer
      (cancel_routine_named set (routine_of_device (slice_get set.devices armer.device))
      armer.queue)
      there word refl

  cancel_exchanged : (o : Option Packet) → packet_of s n ≡ o
      → Cancels set s t n Exchange (cancel_exchanges set s n o)
  cancel_exchanged None there = exchanges_gone there
  cancel_exchanged (Some p) there = cancel_found p p.armer there refl

module _ (set : Set) (s : Shared) (t : ℕ) (under : Option Frame) where
  up : (n : ℕ) (p : Packet) (marked : Bool) → packet_of s n ≡ Some p
      → completion_of (current_location p) ≡ None
      → nat_lt 1 p.depth ≡ true → is_marked (current_location p) ≡ marked
      → Comes set s t under (Walk n)
      (leaves
      (with_packet s n
      (if marked then mark_current (moved_up (left_location p)) else moved_up (left_location p)))
      (Walk n ∷ [])
      (Touches n ∷ Leaves n ∷ Ups n ∷ (if marked then Marks n ∷ [] else [])))
  up n p false there none deep is = walks_up n p there none deep is
  up n p true there none deep is = carries_up n p there none deep is

  routed : (n : ℕ) (p : Packet) (c : Completion) (sort : Sort) → packet_of s n ≡ Some p
      → completion_of (current_location p) ≡ Some c → sort_of_completion set c ≡ sort
      → Comes set s t under (Walk n)
      (leaves (with_packet s n (lent_to sort (moved_up (left_location p))))
      (Walk n ∷ Routine (completes_with set c n) ∷ [])
      (Touches n ∷ Leaves n ∷ Ups n ∷ lending sort n))
  routed n p c Dispatch there next is = walks_to n p c there next (rw is refl)
  routed n p c StartIo there next is = walks_to n p c there next (rw is refl)
  routed n p c Dpc there next is = walks_to n p c there next (rw is refl)
  routed n p c Propagate there next is = walks_to n p c there next (rw is refl)
  routed n p c Hold there next is = lends_to n p c there next is
  routed n p c Cancel there next is = walks_to n p c there next (rw is refl)

  walks_from : (n : ℕ) (p : Packet) (o : Option Completion) → packet_of s n ≡ Some p
      → completion_of (current_location p) ≡ o
      → Comes set s t under (Walk n) (walk_from set s n (left_location p) o)
  walks_from n p (Some c) there next = routed n p c (sort_of_completion set c) there next refl
  walks_from n p None there next =
      cond_both (nat_lt 1 p.depth) (walk_up s n (left_location p)) (walk_out s n (left_location p))
      (λ o. Comes set s t under (Walk n) o)
      (λ deep. up n p (is_marked (current_location p)) there next deep refl)
      (λ last. tops_out n p there next last)

  walks : (n : ℕ) (o : Option Packet) → packet_of s n ≡ o
      → Comes set s t under (Walk n) (walk_packet set s n o)
  walks n None there = walks_gone n there
  walks n (Some p) there = walks_from n p (completion_of (current_location p)) there refl

  comes_cancelling : (n : ℕ) (step : CancelStep) → Cancels set s t n step
      (cancel_step set s t n step)
  comes_cancelling n AcquireStep = cancel_taken set s t n s.locks.system_cancel refl
  comes_cancelling n SetFlag = cancel_flagged set s t n (packet_of s n) refl
  comes_cancelling n Exchange = cancel_exchanged set s t n (packet_of s n) refl

  pub comes : (f : Frame) → Comes set s t under f (frame_effect set s t under f)
  comes (Routine a) =
      routine_comes set s t under a (instruction_at set a.driver a.routine a.position) refl
  comes (Walk n) = walks n (packet_of s n) refl
  comes (CancelFrame c) = cancels c.packet c.next _ (comes_cancelling c.packet c.next)
