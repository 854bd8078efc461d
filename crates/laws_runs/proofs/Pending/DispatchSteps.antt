-- Every step of a dispatch routine, by what it does with the packet that it serves.
use Rattle.laws_runs.proofs.Common.{ap, arith, inl, inr, refl, subst, sym, ◌∙◌, eqb_tells, list_any, Bool, List, None, Option, Some, [], false, if◌then◌else◌, is_some, nat_eq, slice_get, slice_index_or, slice_set, true, ℕ, ◌++◌, ◌+◌, ◌<◌, ◌∷◌, ◌≡◌, ◌≤◌, ◌⊎◌, Acquires, Action, Exchanges, Executes, Releases, Touches, TouchesPaged, Outcome, answered, dispatched, operand_of, set_by, turned, first_fault, duty_completed, is_exchanged, is_kept, is_lower, is_new, is_right, is_view, kind_disarmed, kind_inserted, kind_removed, complete_kind, demanded, given_down, handed, handed_at_label, is_completion, is_hold, is_pending, kind_of, mark_fault, marked, one_handed_or_owned, queued_kind, with_kind, StartState, Set, cancel_routine_of, flow_of, label_of, lower_of, sort_of, Actor, Entry, Shared, asked_of, at_label, completed, current_location, mark_current, next, packet_of, register, sent_down, shared_with, status_in, with_armer, with_info, with_locks, with_loops, with_owner, with_packet, with_register, Abs, Duty, Finished, Fresh, GivenDown, NoDuty, Pending, Kind, BlankKind, LowerKind, New, NumKind, Own, QueuedKind, Settled, Armed, Stepped, Waited, Instr, Arm, Begin, Call, Complete, Dequeue, Disarm, Insert, Loop, Mark, Next, Pass, Put, Remove, Ret, Start, Take, Unlink, Return, WithStatus, Declared, Cancel, Dispatch, Dpc, StartIo, Status, Activation, Armer, Frame, Routine, Packet, Value, Blank, Num, Ref, StatusValue, States, frame_rights, right, rights, not_gone, touch_top, Runs, state_of, HoldOf, goes_hold, hold_get, keeps_copies, next_hold, queued_hold, label_kinds, number_kinds, down, arrives, arrives_next, falls_next, has_next, onto, handed_news, ReturnsBy, completes_one, returns_by, first_none, second_none, unbroken, Comes, Exchanged, Executing, GoesTo, Waits, Written, arms_for, arms_waiting, awaits_lock, calls_down, completes_gone, completes_packet, computes, dequeues_packet, disarms, disarms_next, ends_cancel, ends_dpc, ends_startio, errs, exchanges, frees_lock, inserts, jumping, keeps_all, lets_go, lets_walk, looks_at, makes_blank, makes_number, marks_packet, moves_over, onward, opens_loop, pages, passes_down, puts_in, removes, removes_none, resumes_gone, resumes_none, resumes_walk, retakes_lock, returns_status, starts_gone, starts_next, starts_packet, stops_none, stops_walk, takes_lock, takes_none, takes_out, touches_gone, turns_loop, unlinks, works_on_queues, works_on_waiting, writes_info, LockWord, freed_word, taken_word, goes_same, turned_registers, turned_same, queued_touches, goes_next, is_giving, keeps_registers, work_of, not_false, or_left, or_right}
use Rattle.model.specs.declared.instr.Return.TheVariants.{Lower as LowerStatus}
use Rattle.model.specs.LocalRule.{is_given_down, status_fault}
use Rattle.laws_runs.proofs.Holders.Steps.{named_right}
use Rattle.laws_runs.proofs.Past.LivePackets.{find}
use Rattle.laws_runs.proofs.Past.Packets.{found, named, numbered}
use Rattle.laws_runs.proofs.Pending.DispatchServes.{AsDuty, Does, calls_own, completes_own, marks_own, passes_own, returns_own, stays_quiet}
use Rattle.laws_runs.proofs.Pending.Duties.{owned_up, fresh_rights, Arrived, Dutied, Dutiful, counted, kinds_that, new_fresh, passes_new}
use Rattle.laws_runs.proofs.Pending.LowerStatuses.{lower_ref, lowers_turn, LowerIs, Lowers, lowers_get, lowers_kept, lowers_move, lowers_none, lowers_set}
use Rattle.laws_runs.proofs.Pending.UsesServed.{IsHandedOver, GoesOnAs, BeginsServing, Called, Completed, GivesDown}
use Rattle.laws_runs.proofs.States.Fine.{completion_top}
use Rattle.laws_runs.proofs.States.Kinds.{kinds_turn}
use Rattle.laws_runs.proofs.States.Obeyed.{nothing_kept}
use Rattle.laws_runs.proofs.Steps.Comes.{Queued, Reads, Lacks}
use Rattle.laws_runs.proofs.Steps.Words.{status_returned}
use Rattle.laws_runs.proofs.Uses.Steps.{found_put}
use Rattle.laws_runs.proofs.Uses.RoutineSteps.{StepsRoutine}
use Rattle.laws_runs.proofs.States.HandedOver.{hold_turn, handed_hold}
use Rattle.laws_runs.proofs.Live.Sees.{reads_to, RefersTo}
use Rattle.laws_runs.proofs.Holders.Rights.{rights_turn}
use Rattle.laws_runs.proofs.Holders.Counts.{reads_ref}
use Rattle.laws_runs.proofs.Holders.Sums.{unheld_one, unheld}

-- what leaves the packets with who has them leaves the duty
onto_duty : (set : Set) (driver : ℕ) (s : Abs) (i : Instr) (jumped : Bool)
    → is_giving (work_of i) ≡ false → (onto set driver s i jumped).duty ≡ s.duty
onto_duty set driver s (Mark r) jumped h = cc
onto_duty set driver s (Pass r) jumped h = cc
onto_duty set driver s (Call r f) jumped h = cc
onto_duty set driver s (Complete r status) jumped h = cc
onto_duty set driver s _ true h = refl
onto_duty set driver s _ false h = refl

-- kinds of packets that a dispatch routine marks, completes and sends down
mark_new : (carried : Settled) (k : Kind) → mark_fault carried k ≡ None → is_view k ≡ false
    → k ≡ New
mark_new carried New h seen = refl
mark_new carried _ h seen = cc

marked_pending : (s : Abs) (r : ℕ) (k : Kind) → k ≡ New → (marked s r k).duty ≡ Pending
marked_pending s r New is = refl
marked_pending s r _ is = cc

completes_kind : (k : Kind) → complete_kind k ≡ None → (k ≡ New) ⊎ (k ≡ Own)
completes_kind New rule = inl refl
completes_kind Own rule = inr refl
completes_kind _ rule = cc

call_owned : (k : Kind) → demanded one_handed_or_owned k ≡ None → (k ≡ New) ⊎ (k ≡ Own)
call_owned New h = inl refl
call_owned Own h = inr refl
call_owned _ h = cc

given_new : (s : Abs) (r : ℕ) (k : Kind) → k ≡ New
    → given_down s r k ≡ record (with_kind s r LowerKind) { duty = GivenDown }
given_new s r New is = refl
given_new s r _ is = cc

given_own : (s : Abs) (r : ℕ) (k : Kind) → k ≡ Own → (given_down s r k).duty ≡ s.duty
given_own s r Own is = refl
given_own s r _ is = cc

-- no lower status is left in a state in which a packet is handed over
no_lowers : (s : Abs) (r : ℕ) → Dutiful s → kind_of s r ≡ New → kinds_that is_lower s.kinds ≡ 0
no_lowers s r h is =
    let fresh : Dutied Fresh s.kinds = subst (λ (d : Duty). Dutied d s.kinds) (new_fresh s r h is) h
    in
    fresh.1

-- a status of its own is returned
new_kept : (k : Kind) (b : Bool) → is_new k ≡ b → is_kept k ≡ false → counted is_new k ≡ 0
new_kept k false is none = rw is refl
new_kept New true is none = cc
new_kept _ true is none = cc

no_new : (kinds : List Kind) → list_any is_kept kinds ≡ false → kinds_that is_new kinds ≡ 0
no_new [] none = refl
no_new (k ∷ kinds) none =
    let one : counted is_new k ≡ 0 =
    new_kept k (is_new k) refl (or_left (is_kept k) (list_any is_kept kinds) none) in
    omega (arith, no_new kinds (or_right (is_kept k) (list_any is_kept kinds) none))

with_status : (d : Duty) (kinds : List Kind) (values : List Value) (status : Status)
    → Dutied d kinds
    → status_fault d status ≡ None → kinds_that is_new kinds ≡ 0
    → AsDuty d (is_pending status) kinds values
with_status Fresh kinds values status h rule none = let one : kinds_that is_new kinds ≡ 1 =
    h.0 in absurd (omega arith)
with_status Pending kinds values status h rule none = not_false _ (unbroken _ _ rule)
with_status Finished kinds values status h rule none = unbroken _ _ rule
with_status GivenDown kinds values status h rule none = cc
with_status NoDuty kinds values status h rule none = absurd h

-- a lower driver's
given_is : (d : Duty) → is_given_down d ≡ true → d ≡ GivenDown
given_is GivenDown h = refl
given_is _ h = cc

lower_is : (k : Kind) → is_lower k ≡ true → k ≡ LowerKind
lower_is LowerKind h = refl
lower_is _ h = cc

status_value : (v : Value) (status : Status) → status_in v ≡ Some status → v ≡ StatusValue status
status_value (StatusValue other) status h = let same : other ≡ status = cc in ap StatusValue same
status_value _ status h = cc

lower_told : (x : Bool) (k : Kind) (v : Value) (status : Status) → k ≡ LowerKind
    → v ≡ StatusValue status
    → LowerIs x k v → is_pending status ≡ x
lower_told x k v status kind value h = rw (kind, value) at h

with_lower : (d : Duty) (kinds : List Kind) (values : List Value) (r : ℕ) (status : Status)
    → d ≡ GivenDown
    → slice_index_or kinds r BlankKind ≡ LowerKind
    → slice_index_or values r Blank ≡ StatusValue status
    → AsDuty d (is_pending status) kinds values
with_lower GivenDown kinds values r status is kind value =
    λ x lowers. lower_told x (slice_index_or kinds r BlankKind) (slice_index_or values r Blank)
    status kind value
    (lowers_get x kinds values r lowers)
with_lower _ kinds values r status is kind value = cc

-- what goes into a queue or out of one, or was taken back, is no status
inserted_lower : (x : Bool) (cancel : Option ℕ) (q : ℕ) (v : Value)
    → LowerIs x (kind_inserted cancel (Declared q)) v
inserted_lower x None q v = tt
inserted_lower x (Some routine) q v = tt

disarmed_lower : (x : Bool) (k : Kind) (v : Value) → queued_kind (is_exchanged k) k ≡ None
    → LowerIs x (kind_disarmed k) v
disarmed_lower x LowerKind v rule = cc
disarmed_lower x (QueuedKind name Armed) v rule = tt
disarmed_lower x _ v rule = tt

-- what is known of a dispatch routine's frame that steps
pub record StepsDispatch (set : Set) (states : States) (s : Shared) (past : List Entry)
    (under : Option Frame)
    (a : Activation) : Type 0 where
  pub routine : StepsRoutine set states s past under a
  pub lacks : Lacks set s a → ⊥
  pub is : sort_of set a.driver a.routine ≡ Dispatch
  pub arrived : Arrived (state_of states a)
  pub unseen : (r : ℕ) → is_view (kind_of (state_of states a) r) ≡ false
  pub answers : (r : ℕ) (i : Instr) (status : Status) → Executing set a i
      → operand_of (Some i) ≡ Some r
      → (answered set (next a) status).registers ≡ slice_set a.registers r (StatusValue status)
  pub begins : (lower n : ℕ) (p : Packet) → lower_of set a.device ≡ Some lower → n < s.issued
      → BeginsServing set states
      (dispatched set lower (slice_get set.devices lower) (asked_of (current_location p)) n) n

module _ (set : Set) (states : States) (s : Shared) (past : List Entry) (actor : Actor) (t : ℕ)
    (under : Option Frame) (a : Activation) (h : StepsDispatch set states s past under a) where
  abbrev now : Abs
  now = state_of states a

  -- the statuses of lower drivers that are left
  lowers_on : (x : Bool) (i : Instr) (registers : List Value) → Runs set states s a i
      → is_giving (work_of i) ≡ false → Written a i registers → Lowers x now.kinds a.registers
      → Lowers x (handed set a.driver now i).kinds registers
  lowers_on x i registers run duty (keeps_all _ same) left =
      lowers_kept x set a.driver now i a.registers same duty left
  lowers_on x i registers run duty (makes_number _ r n is) left =
      subst (λ (kinds : List Kind). Lowers x kinds (slice_set a.registers r (Num n)))
      (sym (number_kinds now (sort_of set a.driver a.routine) set a.driver i r run.obeys is))
      (lowers_set x now.kinds a.registers r NumKind (Num n) left tt)
  lowers_on x i registers run duty (moves_over r q) left =
      lowers_move x now.kinds a.registers r q left
  lowers_on x i registers run duty (makes_blank r) left =
      lowers_set x now.kinds a.registers r BlankKind Blank left tt

  lowers_to : (x : Bool) (i : Instr) (b : Activation) (jumped : Bool) → Runs set states s a i
      → is_giving (work_of i) ≡ false → GoesTo a i b jumped → Lowers x now.kinds a.registers
      → Lowers x (onto set a.driver now i jumped).kinds b.registers
  lowers_to x i b jumped run duty (onward registers on written) left =
      lowers_on x i registers run duty written left
  lowers_to x i b jumped run duty (jumping label labelled) left =
      subst (λ (kinds : List Kind). Lowers x kinds a.registers)
      (sym (label_kinds now i duty)) left

  goes_as : (i : Instr) (b : Activation) (jumped : Bool) → Executing set a i
      → is_giving (work_of i) ≡ false
      → GoesTo a i b jumped → GoesOnAs states a b
  goes_as i b jumped at duty goes =
      let run : Runs set states s a i = h.routine.runs i at in
      let there : state_of states b ≡ onto set a.driver now i jumped =
      arrives set states s a i run b jumped goes in
      record {
        driver = (goes_same a i b jumped goes).0;
        routine = (goes_same a i b jumped goes).1;
        duty = ap (λ (state : Abs). state.duty) there ∙ onto_duty set a.driver now i jumped duty;
        lowers = λ x left. subst (λ (state : Abs). Lowers x state.kinds b.registers) (sym there)
            (lowers_to x i b jumped run duty goes left);
        news = λ m refers.
            goes_hold is_new handed_news (RefersTo m) set states s a tt i b jumped run goes refers;
      }

  -- the next position, with the same registers
  next_as : (i : Instr) (b : Activation) → Executing set a i → has_next (flow_of i) ≡ true
      → is_giving (work_of i) ≡ false → keeps_registers i ≡ true → b.driver ≡ a.driver
      → b.routine ≡ a.routine → b.registers ≡ a.registers
      → state_of states b ≡ states a.driver a.routine (a.position + 1) → GoesOnAs states a b
  next_as i b at leads duty keeps driver routine registers position =
      let run : Runs set states s a i = h.routine.runs i at in
      let there : state_of states b ≡ handed set a.driver now i =
      position ∙ arrives_next set states s a i run leads in
      record {
        driver = driver;
        routine = routine;
        duty = ap (λ (state : Abs). state.duty) there ∙ onto_duty set a.driver now i false duty;
        lowers = λ x left.
            subst (λ (values : List Value). Lowers x (state_of states b).kinds values)
            (sym registers)
            (subst (λ (state : Abs). Lowers x state.kinds a.registers) (sym there)
            (lowers_kept x set a.driver now i a.registers keeps duty left));
        news = λ m refers.
            subst (λ (values : List Value). HoldOf is_new (RefersTo m) (state_of states b).kinds
            values)
            (sym registers)
            (subst (λ (state : Abs). HoldOf is_new (RefersTo m) state.kinds a.registers) (sym there)
            (handed_hold is_new handed_news (RefersTo m) set a.driver now i a.registers
            (keeps_copies i keeps) refers));
      }

  locks_as : (i : Instr) → Executing set a i → LockWord i → GoesOnAs states a (next a)
  locks_as i at word =
      next_as i (next a) at (falls_next (flow_of i) word.on) (ap is_giving word.work) word.keeps
      refl refl refl refl

  put_there : (n : ℕ) (p q : Packet) → packet_of s n ≡ Some p → q.number ≡ p.number
      → find (with_packet s n q).packets n ≡ Some q
  put_there n p q there same =
      found_put s n p q (found s n (Some p) there) (same ∙ numbered s n p there)

  -- a packet that it was handed
  handed_over : (r n : ℕ) → kind_of now r ≡ New → Reads s a r n → IsHandedOver states a n
  handed_over r n is reads =
      record {
        fresh = new_fresh now r h.arrived.dutiful is;
        is = λ m refers.
            reads_to m s (register a r) n
            (hold_get is_new handed_news (RefersTo m) now.kinds a.registers r tt refers
            (ap is_new is))
            reads;
      }

  -- one register's kind becomes another, and the duty stays: a packet is given up or exchanged, or
  -- there was none to take
  turns_as : (i : Instr) (r : ℕ) (k : Kind) (b : Activation) (jumped : Bool) → Executing set a i
      → GoesTo a i b jumped → b.registers ≡ a.registers
      → (onto set a.driver now i jumped).kinds ≡ slice_set now.kinds r k
      → (onto set a.driver now i jumped).duty ≡ now.duty → ((x : Bool) → LowerIs x k (register a r))
      → GoesOnAs states a b
  turns_as i r k b jumped at goes registers kinds duty lower =
      let run : Runs set states s a i = h.routine.runs i at in
      let there : state_of states b ≡ onto set a.driver now i jumped =
      arrives set states s a i run b jumped goes in
      record {
        driver = (goes_same a i b jumped goes).0;
        routine = (goes_same a i b jumped goes).1;
        duty = ap (λ (state : Abs). state.duty) there ∙ duty;
        lowers = λ x left.
            subst (λ (values : List Value). Lowers x (state_of states b).kinds values)
            (sym registers)
            (subst (λ (ks : List Kind). Lowers x ks a.registers)
            (sym (ap (λ (state : Abs). state.kinds) there ∙ kinds))
            (lowers_turn x now.kinds a.registers r k left (lower x)));
        news = λ m refers.
            goes_hold is_new handed_news (RefersTo m) set states s a tt i b jumped run goes refers;
      }

  -- with the next position, and the same registers
  next_turns : (i : Instr) (r : ℕ) (k : Kind) → Executing set a i → goes_next i ≡ true
      → keeps_registers i ≡ true → (handed set a.driver now i).kinds ≡ slice_set now.kinds r k
      → (handed set a.driver now i).duty ≡ now.duty → ((x : Bool) → LowerIs x k (register a r))
      → GoesOnAs states a (next a)
  next_turns i r k at on keeps kinds duty lower =
      turns_as i r k (next a) false at (onward a.registers on (keeps_all i keeps)) refl kinds duty
      lower

  -- a packet that it then owns is taken off a queue or out of the current slot, or none was there
  takes_own : (i : Instr) (r n : ℕ) (k : Kind) {queues : List (List (List ℕ))}
      {lists : List StartState}
      {actions : List Action} {full : Bool} → Executing set a i
      → Queued set s a i (next (with_register a r (Ref n))) queues lists actions full
      → has_next (flow_of i) ≡ true → (handed set a.driver now i).kinds ≡ slice_set now.kinds r k
      → (handed set a.driver now i).duty ≡ now.duty
      → GoesOnAs states a (next (with_register a r (Ref n)))
  takes_own i r n k at queued leads kinds duty =
      let run : Runs set states s a i = h.routine.runs i at in
      let on : state_of states (next (with_register a r (Ref n))) ≡ handed set a.driver now i =
      arrives_next set states s a i run leads in
      record {
        driver = refl;
        routine = refl;
        duty = ap (λ (state : Abs). state.duty) on ∙ duty;
        lowers = λ x left.
            subst (λ (ks : List Kind). Lowers x ks (slice_set a.registers r (Ref n)))
            (sym (ap (λ (state : Abs). state.kinds) on ∙ kinds))
            (lowers_set x now.kinds a.registers r k (Ref n) left (lower_ref x k n));
        news = λ m refers.
            queued_hold is_new handed_news (RefersTo m) set states s a i tt run queued refers;
      }

  takes_nothing : (i : Instr) (r label : ℕ) → Executing set a i → label_of i ≡ Some label
      → (handed_at_label now i).kinds ≡ slice_set now.kinds r BlankKind
      → (handed_at_label now i).duty ≡ now.duty → GoesOnAs states a (at_label a label)
  takes_nothing i r label at labelled kinds duty =
      turns_as i r BlankKind (at_label a label) true at (jumping label labelled) refl kinds duty
      (λ x. tt)

  started_as : Executing set a Next → GoesOnAs states a (next a)
  started_as at =
      let run : Runs set states s a Next = h.routine.runs Next at in
      let on : state_of states (next a) ≡ handed set a.driver now Next =
      arrives_next set states s a Next run refl in
      record {
        driver = refl;
        routine = refl;
        duty = ap (λ (state : Abs). state.duty) on;
        lowers = λ x left. subst (λ (state : Abs). Lowers x state.kinds a.registers) (sym on) left;
        news = λ m refers.
            next_hold is_new handed_news (RefersTo m) set states s a tt Next run refl refl refers;
      }

  waits_as : (i : Instr) → Executing set a i → {starts : List StartState} {n : ℕ}
      {armer : Option Armer} {full : Bool} → Waits set s a i starts n armer full
      → GoesOnAs states a (next a)
  waits_as i at (arms_waiting r n start reads there armed) =
      next_turns (Start r) r BlankKind at refl refl refl refl (λ x. tt)
  waits_as i at (disarms_next n start there first) = started_as at

  queued_as : (i : Instr) (b : Activation) (queues : List (List (List ℕ)))
      (lists : List StartState) (actions : List Action) (full : Bool) → Executing set a i
      → Queued set s a i b queues lists actions full → GoesOnAs states a b
  queued_as i b queues lists actions full at (inserts r q n entries reads there) =
      next_turns (Insert r q) r
      (kind_inserted (cancel_routine_of set a.driver q) (Declared q)) at refl refl
      refl refl (λ x. inserted_lower x (cancel_routine_of set a.driver q) q (register a r))
  queued_as i b queues lists actions full at (removes r q label n entries there) =
      takes_own (Remove r q label) r n
      (kind_removed (cancel_routine_of set a.driver q) (Declared q)) at
      (removes r q label n entries there) refl refl refl
  queued_as i b queues lists actions full at (removes_none r q label there) =
      takes_nothing (Remove r q label) r label at refl refl refl
  queued_as i b queues lists actions full at (unlinks r q n entries reads there) =
      next_turns (Unlink r q) r Own at refl refl refl refl (λ x. tt)
  queued_as i b queues lists actions full at (starts_packet r n start reads there plain) =
      next_turns (Start r) r BlankKind at refl refl refl refl (λ x. tt)
  queued_as i b queues lists actions full at (takes_out r label n start there slot) =
      takes_own (Take r label) r n Own at (takes_out r label n start there slot) refl refl refl
  queued_as i b queues lists actions full at (takes_none r label start there slot) =
      takes_nothing (Take r label) r label at refl refl refl
  queued_as i b queues lists actions full at (puts_in r n start reads there) =
      next_turns (Begin r) r BlankKind at refl refl refl refl (λ x. tt)
  queued_as i b queues lists actions full at (starts_next start there none) = started_as at
  queued_as i b queues lists actions full at (starts_gone n start there first gone) = started_as at
  queued_as i b queues lists actions full at (dequeues_packet r n start reads there) =
      next_turns (Dequeue r) r Own at refl refl refl refl (λ x. tt)

  -- a packet's cancel routine is exchanged
  arm_same : (r q : ℕ) (registers : List Value) → Written a (Arm r q) registers
      → registers ≡ a.registers
  arm_same r q registers (keeps_all _ same) = refl
  arm_same r q registers (makes_number _ k n is) = cc

  disarm_same : (r label : ℕ) (registers : List Value) → Written a (Disarm r label) registers
      → registers ≡ a.registers
  disarm_same r label registers (keeps_all _ same) = refl
  disarm_same r label registers (makes_number _ k n is) = cc

  armed_as : (r q : ℕ) (b : Activation) → Executing set a (Arm r q) → GoesTo a (Arm r q) b false
      → GoesOnAs states a b
  armed_as r q b at (onward registers on written) =
      turns_as (Arm r q) r (QueuedKind (Declared q) Armed) b false at (onward registers on written)
      (arm_same r q registers written) refl refl (λ x. tt)

  disarmed_as : (r label : ℕ) (b : Activation) (jumped : Bool) → Executing set a (Disarm r label)
      → GoesTo a (Disarm r label) b jumped → GoesOnAs states a b
  disarmed_as r label b false at (onward registers on written) =
      turns_as (Disarm r label) r (kind_disarmed (kind_of now r)) b false at
      (onward registers on written) (disarm_same r label registers written) refl refl
      (λ x. disarmed_lower x (kind_of now r) (register a r)
      (h.routine.runs (Disarm r label) at).obeys)
  disarmed_as r label b true at (jumping to labelled) =
      turns_as (Disarm r label) r BlankKind b true at (jumping to labelled) refl refl refl (λ x. tt)

  exchanged_as : (i : Instr) (b : Activation) (jumped : Bool) (p : Packet) (armer : Option Armer)
      → Executing set a i → GoesTo a i b jumped → Exchanged set a p i jumped armer
      → GoesOnAs states a b
  exchanged_as i b jumped p armer at goes (arms_for r q routine there) = armed_as r q b at goes
  exchanged_as i b jumped p armer at goes (disarms r label) = disarmed_as r label b jumped at goes

  -- a packet is given down
  gives_down : (i : Instr) (r n : ℕ) → Executing set a i → Reads s a r n
      → has_next (flow_of i) ≡ true
      → operand_of (Some i) ≡ Some r
      → handed set a.driver now i ≡ given_down now r (kind_of now r) → kind_of now r ≡ New
      → GivesDown set states a (next a) n
  gives_down i r n at reads leads operand given is =
      let there : state_of states (next a)
      ≡ record (with_kind now r LowerKind) { duty = GivenDown } =
      arrives_next set states s a i (h.routine.runs i at) leads ∙ given
      ∙ given_new now r (kind_of now r) is in
      record {
        before = handed_over r n is reads;
        after = ap (λ (state : Abs). state.duty) there;
        answer = λ status.
            subst (λ (values : List Value). Lowers (is_pending status)
            (state_of states (next a)).kinds values)
            (sym (h.answers r i status at operand))
            (subst (λ (state : Abs). Lowers (is_pending status) state.kinds
            (slice_set a.registers r (StatusValue status))) (sym there)
            (lowers_set (is_pending status) now.kinds a.registers r LowerKind (StatusValue status)
            (lowers_none (is_pending status) now.kinds a.registers
            (no_lowers now r h.arrived.dutiful is)) refl));
      }

  -- the packet that it was handed is another one than one that it owns
  other_handed : (r n : ℕ) (i : Instr) → Executing set a i → kind_of now r ≡ Own → Reads s a r n
      → (m : ℕ)
      → now.duty ≡ Fresh → HoldOf is_new (RefersTo m) now.kinds a.registers → nat_eq n m ≡ false
  other_handed r n i at is reads m fresh refers =
      let run : Runs set states s a i = h.routine.runs i at in
      let turn : rights (slice_set now.kinds r BlankKind) a.registers m
      + right (kind_of now r) (register a r) m
      ≡ rights now.kinds a.registers m + 0 =
      rights_turn s.issued now.kinds a.registers r BlankKind m run.stays.kinds in
      let gone : right (kind_of now r) (register a r) m ≡ (if nat_eq n m then 1 else 0) =
      named_right (kind_of now r) (register a r) n m (ap is_right is)
      (reads_ref s (register a r) n reads) in
      let le : frame_rights states (Routine a) m ≤ unheld (find s.packets m) = h.routine.rights m in
      let one : unheld (find s.packets m) ≤ 1 = unheld_one (find s.packets m) in
      let left : 1 ≤ rights (slice_set now.kinds r BlankKind) a.registers m =
      fresh_rights (with_kind now r BlankKind) a.registers s.issued m
      (owned_up now r h.arrived.dutiful is) fresh
      (kinds_turn s.issued now.kinds a.registers r BlankKind run.stays.kinds tt)
      (hold_turn is_new handed_news (RefersTo m) now.kinds a.registers r BlankKind refl refers) in
      elim (eqb_tells n m) [
        | inl e ↦
            let its : right (kind_of now r) (register a r) m ≡ 1 = rw e.0 at gone in
            absurd (omega arith)
        | inr e ↦ e.0
      ]

  called_down : (r : ℕ) (f : Option ℕ) (n : ℕ) → Executing set a (Call r f) → Reads s a r n
      → (kind_of now r ≡ New) ⊎ (kind_of now r ≡ Own) → Called set states a (next a) n
  called_down r f n at reads (inl is) = inl (gives_down (Call r f) r n at reads refl refl refl is)
  called_down r f n at reads (inr is) =
      let there : state_of states (next a) ≡ given_down now r (kind_of now r) =
      arrives_next set states s a (Call r f) (h.routine.runs (Call r f) at) refl in
      let kinds : (given_down now r (kind_of now r)).kinds ≡ slice_set now.kinds r BlankKind =
      ap (λ (k : Kind). (given_down now r k).kinds) is in
      inr (record {
        on = next_turns (Call r f) r BlankKind at refl refl kinds
            (given_own now r (kind_of now r) is) (λ x. tt);
        answer = λ x status left.
            subst (λ (values : List Value). Lowers x (state_of states (next a)).kinds values)
            (sym (h.answers r (Call r f) status at refl))
            (subst (λ (ks : List Kind). Lowers x ks (slice_set a.registers r (StatusValue status)))
            (sym (ap (λ (state : Abs). state.kinds) there ∙ kinds))
            (lowers_set x now.kinds a.registers r BlankKind (StatusValue status) left tt));
        other = λ m fresh refers. other_handed r n (Call r f) at is reads m fresh refers;
      })

  completed_by : (r : ℕ) (status : Status) (n : ℕ) → Executing set a (Complete r status)
      → Reads s a r n
      → (kind_of now r ≡ New) ⊎ (kind_of now r ≡ Own) → Completed states a (next a) n
  completed_by r status n at reads (inl is) =
      inl (
        handed_over r n is reads,
        ap (λ (state : Abs). state.duty)
            (arrives_next set states s a (Complete r status)
            (h.routine.runs (Complete r status) at) refl)
            ∙ ap (λ (k : Kind). duty_completed k now.duty) is,
      )
  completed_by r status n at reads (inr is) =
      inr (next_turns (Complete r status) r BlankKind at refl refl refl
      (ap (λ (k : Kind). duty_completed k now.duty) is) (λ x. tt))

  -- a return
  returns_as : (form : Return) (status : Status)
      → ReturnsBy now (sort_of set a.driver a.routine) set a.driver form
      → status_returned a form ≡ Some status → AsDuty now.duty (is_pending status) now.kinds
      a.registers
  returns_as (WithStatus own) status by there =
      let same : own ≡ status = cc in
      subst (λ (x : Status). AsDuty now.duty (is_pending x) now.kinds a.registers) same
      (with_status now.duty now.kinds a.registers own h.arrived.dutiful by.duty
      (no_new now.kinds (nothing_kept (sort_of set a.driver a.routine) (WithStatus own) now.kinds
      (ap is_hold h.is) by.nothing_left)))
  returns_as (LowerStatus r) status by there =
      with_lower now.duty now.kinds a.registers r status
      (given_is now.duty (not_false _ (unbroken _ _ (second_none _ _ by.duty))))
      (lower_is (kind_of now r) (not_false _ (unbroken _ _ (first_none _ _ by.duty))))
      (status_value (register a r) status there)
  returns_as _ status by there = cc

  no_completion : is_completion (sort_of set a.driver a.routine) ≡ true → ⊥
  no_completion is = let no : true ≡ false = sym is ∙ ap is_completion h.is in cc

  -- every step
  pub dispatch_does : (below : Option Frame) (o : Outcome) → Comes set s t below (Routine a) o
      → first_fault past actor o.actions ≡ None → Does set states a o
  dispatch_does below o (errs b lacks) quiet = absurd (h.lacks lacks)
  dispatch_does below o (awaits_lock b i lock owner at taken owned other) quiet =
      stays_quiet s a [] Waited false
      (record {
        driver = refl;
        routine = refl;
        duty = refl;
        lowers = λ x left. left;
        news = λ m refers. refers;
      }) refl
  dispatch_does below o (computes b i c jumped cells at work goes long) quiet =
      stays_quiet (record s { cells = cells }) c (Executes ∷ []) Stepped false
      (goes_as i c jumped at (ap is_giving work) goes) refl
  dispatch_does below o (opens_loop b turns at room) quiet =
      stays_quiet s
      (next (with_loops a
      (a.loops.items ++ record { start = a.position + 1; turns = turns } ∷ [])))
      (Executes ∷ []) Stepped false
      (next_as (Loop turns)
      (next (with_loops a (a.loops.items ++ record { start = a.position + 1; turns = turns } ∷ [])))
      at
      refl refl refl refl refl refl refl) refl
  dispatch_does below o (turns_loop b l at there) quiet =
      let registers : (turned a l).registers ≡ a.registers = turned_registers a l in
      let back : state_of states (turned a l) ≡ now = h.routine.ends l at there in
      stays_quiet s (turned a l) (Executes ∷ []) Stepped false
      (record {
        driver = (turned_same a l).0;
        routine = (turned_same a l).1;
        duty = ap (λ (state : Abs). state.duty) back;
        lowers = λ x left. subst (λ (state : Abs). Lowers x state.kinds (turned a l).registers)
            (sym back)
            (subst (λ (values : List Value). Lowers x now.kinds values) (sym registers) left);
        news = λ m refers. rw (back, registers) refers;
      }) refl
  dispatch_does below o (pages b i c cell cells at work goes long) quiet =
      stays_quiet (record s { cells = cells }) c (Executes ∷ TouchesPaged cell ∷ []) Stepped false
      (goes_as i c false at (ap is_giving work) goes) refl
  dispatch_does below o (touches_gone b i r n at touching on operand reads gone) quiet =
      absurd (not_gone s past n h.routine.tells (touch_top past actor n quiet) (named s _ n reads)
      gone)
  dispatch_does below o (looks_at b i c jumped r n p at work goes operand reads there jumps) quiet =
      stays_quiet s c (Executes ∷ Touches n ∷ []) Stepped false
      (goes_as i c jumped at (ap is_giving work) goes) refl
  dispatch_does below o (writes_info b q r n p info at reads there number) quiet =
      stays_quiet (with_packet s n (with_info p info)) (next a) (Executes ∷ Touches n ∷ []) Stepped
      false
      (next_as (Put q r) (next a) at refl refl refl refl refl refl refl) refl
  dispatch_does below o (marks_packet b r n p at reads there) quiet =
      let run : Runs set states s a (Mark r) = h.routine.runs (Mark r) at in
      let is : kind_of now r ≡ New = mark_new now.settled (kind_of now r) run.obeys (h.unseen r) in
      marks_own (with_packet s n (mark_current p)) n (mark_current p)
      (put_there n p (mark_current p) there refl)
      (h.routine.owns r n (ap is_right is) reads) (handed_over r n is reads)
      (ap (λ (state : Abs). state.duty) (arrives_next set states s a (Mark r) run refl)
      ∙ marked_pending now r (kind_of now r) is)
  dispatch_does below o (exchanges b i c jumped r n p armer at work goes operand reads there how)
      quiet =
      stays_quiet (with_packet s n (with_armer p armer)) c
      (Executes ∷ Touches n ∷ Exchanges n (is_some armer) ∷ []) Stepped false
      (exchanged_as i c jumped p armer at goes how) refl
  dispatch_does below o (takes_lock b i lock at taken free) quiet =
      stays_quiet (with_locks s (with_owner s.locks lock (Some t))) (next a)
      (Executes ∷ Acquires lock ∷ []) Stepped false
      (locks_as i at (taken_word a i lock taken)) refl
  dispatch_does below o (retakes_lock b i lock at taken own) quiet =
      stays_quiet s (next a) (Executes ∷ Acquires lock ∷ []) Stepped false
      (locks_as i at (taken_word a i lock taken)) refl
  dispatch_does below o (frees_lock b i lock owner at freed owned) quiet =
      stays_quiet (with_locks s (with_owner s.locks lock None)) (next a)
      (Executes ∷ Releases lock ∷ []) Stepped false
      (locks_as i at (freed_word a i lock freed)) refl
  dispatch_does below o (works_on_queues b i c queues starts actions full at queued) quiet =
      stays_quiet (record s { queues = queues; starts = starts }) c (Executes ∷ actions) Stepped
      full
      (queued_as i c queues starts actions full at queued)
      (elim (queued_touches queued) [ inl none ↦ rw none refl | inr one ↦ rw one.1 refl ])
  dispatch_does below o (works_on_waiting b i starts n p armer full at there waits) quiet =
      stays_quiet (record (with_packet s n (with_armer p armer)) { starts = starts }) (next a)
      (Executes ∷ Touches n ∷ Exchanges n (is_some armer) ∷ []) Stepped full
      (waits_as i at waits) refl
  dispatch_does below o (completes_packet b r status n p at reads there) quiet =
      let run : Runs set states s a (Complete r status) = h.routine.runs (Complete r status) at in
      let rule : complete_kind (kind_of now r) ≡ None = first_none _ _ run.obeys in
      let right : is_right (kind_of now r) ≡ true =
      (completes_one now (sort_of set a.driver a.routine) set a.driver r status run.obeys).right in
      completes_own (with_packet s n (completed p status)) n (completed p status)
      (put_there n p (completed p status) there refl) refl
      (h.routine.owns r n right reads)
      (completed_by r status n at reads (completes_kind (kind_of now r) rule))
  dispatch_does below o (completes_gone b r status n at reads gone) quiet =
      absurd (not_gone s past n h.routine.tells (completion_top past actor n quiet)
      (named s _ n reads) gone)
  dispatch_does below o (passes_down b r n p lower at reads there under_it) quiet =
      let is : kind_of now r ≡ New =
      passes_new (kind_of now r) (first_none _ _ (h.routine.runs (Pass r) at).obeys) in
      passes_own (with_packet s n (shared_with p lower)) n
      (dispatched set lower (slice_get set.devices lower) (asked_of (current_location p)) n)
      (h.begins lower n p under_it (named s _ n reads)) (h.routine.owns r n (ap is_right is) reads)
      (gives_down (Pass r) r n at reads refl refl refl is)
  dispatch_does below o (calls_down b r f n p lower at reads there under_it) quiet =
      let is : (kind_of now r ≡ New) ⊎ (kind_of now r ≡ Own) =
      call_owned (kind_of now r) (first_none _ _ (h.routine.runs (Call r f) at).obeys) in
      calls_own (with_packet s n (sent_down p lower (set_by a f))) n
      (sent_down p lower (set_by a f))
      (dispatched set lower (slice_get set.devices lower) (asked_of (current_location p)) n)
      (put_there n p (sent_down p lower (set_by a f)) there refl)
      (h.begins lower n p under_it (named s _ n reads))
      (h.routine.owns r n
      (down set states s a (Call r f) r (h.routine.runs (Call r f) at) refl refl).right reads)
      (called_down r f n at reads is)
  dispatch_does below o (returns_status b form status at sort there) quiet =
      returns_own s status
      (returns_as form status
      (returns_by now (sort_of set a.driver a.routine) set a.driver form
      (h.routine.runs (Ret form) at).obeys) there)
  dispatch_does below o (lets_go b at sort bare) quiet =
      absurd (no_completion (ap is_completion sort))
  dispatch_does below o (lets_walk b n at sort) quiet =
      absurd (no_completion (ap is_completion sort))
  dispatch_does below o (resumes_walk b n p at sort there) quiet =
      absurd (no_completion (ap is_completion sort))
  dispatch_does below o (resumes_gone b n at sort gone) quiet =
      absurd (no_completion (ap is_completion sort))
  dispatch_does below o (resumes_none b at sort bare) quiet =
      absurd (no_completion (ap is_completion sort))
  dispatch_does below o (stops_walk b n at above) quiet = absurd (no_completion above)
  dispatch_does below o (stops_none b at above bare) quiet = absurd (no_completion above)
  dispatch_does below o (ends_startio b at sort) quiet =
      let no : Dispatch ≡ StartIo = sym h.is ∙ sort in cc
  dispatch_does below o (ends_dpc b at sort) quiet = let no : Dispatch ≡ Dpc = sym h.is ∙ sort in cc
  dispatch_does below o (ends_cancel b at sort) quiet =
      let no : Dispatch ≡ Cancel = sym h.is ∙ sort in cc
