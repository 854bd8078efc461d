-- What a step of a routine does to each packet and its uses.
use Rattle.laws_runs.proofs.Common.{ap, arith, inl, inr, refl, subst, sym, ◌-◌, ◌∙◌, cond_both, eq-eqb, leb-false, eqb_tells, list_any, Bool, List, None, Option, Some, [], false, is_some, nat_eq, nat_le, not, slice_get, true, ℕ, ⊤, ◌++◌, ◌+◌, ◌∷◌, ◌≡◌, ◌≤◌, ◌⊎◌, Acquires, Action, Calls, Completes, Continues, Exchanges, Executes, GoesWrong, Marks, Releases, Touches, TouchesPaged, Outcome, asks, dispatched, goes_on, goes_wrong, leaves, set_by, turned, bug_if, depth, first_fault, first_or, stack_size, topped, is_right, is_view, broken_if, is_completion, kind_of, look_fault, mark_fault, marked, refuses, settled_fault, StartState, Set, flow_of, sort_of, Actor, Entry, Shared, asked_of, completed, current_location, innermost, mark_current, next, packet_of, sent_down, shared_with, with_armer, with_info, with_locks, with_loops, with_owner, with_packet, Abs, Kind, New, View, CompletionRule, Settled, NeedMark, Open, SettledMark, Bug, IrqlNotLessOrEqual, Reply, Stepped, Waited, PacketSubject, Instr, Call, Complete, End, Get, IfCancel, IfPending, Loop, Mark, Pass, Put, Ret, Return, Continue, Stop, Void, Sort, Hold, Propagate, Activation, Armer, Frame, CancelFrame, Routine, Walk, OpenLoop, Packet, States, frame_rights, IsCompleting, IsOfSort, not_gone, touch_top, Runs, state_of, down, arrives, arrives_next, falls_next, has_next, onto, returns_by, MovedOn, queue_moves, waits_move, Comes, Executing, GoesTo, Waits, awaits_lock, calls_down, completes_gone, completes_packet, computes, ends_cancel, ends_dpc, ends_startio, errs, exchanges, frees_lock, lets_go, lets_walk, looks_at, marks_packet, opens_loop, pages, passes_down, resumes_gone, resumes_none, resumes_walk, retakes_lock, returns_status, stops_none, stops_walk, takes_lock, touches_gone, turns_loop, works_on_queues, works_on_waiting, writes_info, none_first, none_later, LockWord, freed_word, taken_word, queued_touches, queued_work, waits_work, Work, packet_operand, work_of}
use Rattle.model.specs.declared.event.BugCheck.TheVariants.{NoMoreIrpStackLocations}
use Rattle.model.specs.LocalRule.{is_settled}
use Rattle.laws_runs.proofs.Holders.Sums.{held, own_if, unheld}
use Rattle.laws_runs.proofs.Past.LivePackets.{find}
use Rattle.laws_runs.proofs.Past.Packets.{Tells, found, named, numbered}
use Rattle.laws_runs.proofs.States.Fine.{bug_none}
use Rattle.laws_runs.proofs.Uses.HoldRoutines.{given_settled}
use Rattle.laws_runs.proofs.Steps.Comes.{Queued, Reads}
use Rattle.laws_runs.proofs.Steps.Words.{Looking, Marking, jumps_on}
use Rattle.laws_runs.proofs.Uses.Becomes.{gets_marked, goes_down}
use Rattle.laws_runs.proofs.Room.Locations.{shared_completion, shared_marks}
use Rattle.laws_runs.proofs.Past.Stacks.{shared_length}
use Rattle.laws_runs.proofs.Uses.Fates.{late_in, late_mark, late_on}
use Rattle.laws_runs.proofs.Uses.Traced.{is_about}
use Rattle.laws_runs.proofs.Uses.Steps.{UseStep, apart_at, becomes_at, found_other, found_put, late_of, split_step, written_step}

-- a routine that goes on has as much to carry up as before, and what stands on one carries nothing
pub late_still : (states : States) (returned : Bool) (n : ℕ) (under : Option Frame)
    (a b : Activation)
    → (state_of states b).settled ≡ (state_of states a).settled
    → late_on states returned n under (Routine b) ≡ late_on states returned n under (Routine a)
late_still states returned n None a b h = refl
late_still states returned n (Some (Routine c)) a b h = refl
late_still states returned n (Some (Walk m)) a b h = rw h refl
late_still states returned n (Some (CancelFrame c)) a b h = refl

on_routine : (states : States) (returned : Bool) (n : ℕ) (b : Activation) (g : Frame)
    → late_on states returned n (Some (Routine b)) g ≡ 0
on_routine states returned n b (Routine c) = refl
on_routine states returned n b (Walk m) = refl
on_routine states returned n b (CancelFrame c) = refl

one_late : (states : States) (returned : Bool) (n : ℕ) (under : Option Frame) (a b : Activation)
    → (state_of states b).settled ≡ (state_of states a).settled
    → late_in states returned n under (Routine b ∷ []) ≡ late_on states returned n under (Routine a)
one_late states returned n under a b settled =
    omega (arith, late_still states returned n under a b settled)

two_late : (states : States) (returned : Bool) (n : ℕ) (under : Option Frame) (a b : Activation)
    (g : Frame)
    → (state_of states b).settled ≡ (state_of states a).settled
    → late_in states returned n under (Routine b ∷ g ∷ [])
    ≡ late_on states returned n under (Routine a)
two_late states returned n under a b g settled =
    omega (arith, on_routine states returned n b g, late_still states returned n under a b settled)

-- what has to be carried up changes with a mark or a look alone
abbrev settles : Instr → Bool
settles (Mark r) = true
settles (IfPending r label) = true
settles _ = false

abbrev keeps_settled : Work → Bool
keeps_settled Marking = false
keeps_settled Looking = false
keeps_settled _ = true

quiet_work : (i : Instr) → keeps_settled (work_of i) ≡ true → settles i ≡ false
quiet_work (Mark r) h = cc
quiet_work (IfPending r label) h = cc
quiet_work _ h = refl

onto_settled : (set : Set) (driver : ℕ) (s : Abs) (i : Instr) (jumped : Bool) → settles i ≡ false
    → (onto set driver s i jumped).settled ≡ s.settled
onto_settled set driver s (Mark r) jumped h = cc
onto_settled set driver s (IfPending r label) jumped h = cc
onto_settled set driver s (Pass r) false h = given_settled s r (kind_of s r)
onto_settled set driver s (Call r f) false h = given_settled s r (kind_of s r)
onto_settled set driver s _ true h = refl
onto_settled set driver s _ false h = refl

-- a look: of a completion routine it settles whether there is a mark to carry up
abbrev LooksSo : Abs → Abs → ℕ → Packet → Type 0
LooksSo s to r p =
    (to.settled ≡ s.settled) ⊎ ((is_view (kind_of s r) ≡ true)
    × (late_mark p.pending_returned to.settled ≡ late_mark p.pending_returned s.settled))

looked_kind : (carried : Settled) (k : Kind) → look_fault carried k ≡ None → (is_view k ≡ true)
    × (carried ≡ Open)
looked_kind Open View h = (refl, refl)
looked_kind NeedMark View h = cc
looked_kind SettledMark View h = cc
looked_kind carried _ h = cc

looked_late : (set : Set) (driver : ℕ) (returned : Bool) (s : Abs) (r label : ℕ) → s.settled ≡ Open
    → late_mark returned (onto set driver s (IfPending r label) returned).settled
    ≡ late_mark returned s.settled
looked_late set driver true s r label is = rw is refl
looked_late set driver false s r label is = rw is refl

looks_so : (s : Abs) (i : Instr) (sort : Sort) (set : Set) (driver r : ℕ) (p : Packet)
    (jumped : Bool)
    → refuses s i sort set driver ≡ None → work_of i ≡ Looking → packet_operand i ≡ Some r
    → jumped ≡ jumps_on i p
    → LooksSo s (onto set driver s i jumped) r p
looks_so s (Get q k field) sort set driver r p true rule work operand jumps = inl refl
looks_so s (Get q k field) sort set driver r p false rule work operand jumps = inl refl
looks_so s (IfCancel q label) sort set driver r p true rule work operand jumps = inl refl
looks_so s (IfCancel q label) sort set driver r p false rule work operand jumps = inl refl
looks_so s (IfPending q label) sort set driver r p jumped rule work operand jumps =
    let known : (is_view (kind_of s q) ≡ true) × (s.settled ≡ Open) =
    looked_kind s.settled (kind_of s q) rule in
    let same : q ≡ r = cc in
    inr (
      subst (λ (x : ℕ). is_view (kind_of s x) ≡ true) same known.0,
      subst (λ (b : Bool). late_mark p.pending_returned
          (onto set driver s (IfPending q label) b).settled
          ≡ late_mark p.pending_returned s.settled) (sym jumps)
          (looked_late set driver p.pending_returned s q label known.1),
    )
looks_so s _ sort set driver r p jumped rule work operand jumps = cc

-- a mark: of a packet that the routine was handed, or where one has to be carried up
pub marked_kind : (carried : Settled) (k : Kind) → mark_fault carried k ≡ None
    → (k ≡ New) ⊎ ((k ≡ View) × (carried ≡ NeedMark))
marked_kind carried New h = inl refl
marked_kind NeedMark View h = inr (refl, refl)
marked_kind _ _ h = cc

new_settled : (s : Abs) (r : ℕ) (k : Kind) → k ≡ New → (marked s r k).settled ≡ s.settled
new_settled s r New h = refl
new_settled s r View h = cc
new_settled s r _ h = refl

-- a return: a completion routine has carried up what it had to
carried_mark : (carried : Settled) → broken_if (not (is_settled carried)) CompletionRule ≡ None
    → carried ≡ SettledMark
carried_mark SettledMark rule = refl
carried_mark _ rule = cc

settled_mark : (s : Abs) (sort : Sort) (form : Return) → sort ≡ Propagate
    → settled_fault sort s form ≡ None → s.settled ≡ SettledMark
settled_mark s Propagate form is rule = carried_mark s.settled rule
settled_mark s _ form is rule = cc

walk_other : (states : States) (returned : Bool) (n m : ℕ) (under : Option Frame) (a b : Activation)
    → under ≡ Some (Walk n) → nat_eq n m ≡ false
    → late_on states returned m under (Routine b) ≡ late_on states returned m under (Routine a)
walk_other states returned n m under a b walk apart = rw (walk, apart) refl

none_late : (late : Bool → ℕ) (o : Option Packet) → ((returned : Bool) → late returned ≡ 0)
    → late_of late o ≡ 0
none_late late None h = refl
none_late late (Some p) h = h p.pending_returned

held_free : (p : Packet) → p.completing ≡ false → held (Some p) ≡ 0
held_free p free = rw free refl

-- on what stands under a routine: completion routines run over the I/O manager's frame
abbrev pub OnWalk : Set → Option Frame → Activation → Type 0
OnWalk set (Some (Walk n)) a = IsCompleting set a
OnWalk set _ a = ⊤

-- what is known of a routine's frame that steps
pub record StepsRoutine (set : Set) (states : States) (s : Shared) (past : List Entry)
    (under : Option Frame)
    (a : Activation) : Type 0 where
  pub tells : Tells s past
  pub runs : (i : Instr) → Executing set a i → Runs set states s a i
  pub ends : (l : OpenLoop) → Executing set a End → innermost a ≡ Some l
      → state_of states (turned a l) ≡ state_of states a
  pub rights : (n : ℕ) → frame_rights states (Routine a) n ≤ unheld (find s.packets n)
  pub owns : (r n : ℕ) → is_right (kind_of (state_of states a) r) ≡ true → Reads s a r n
      → 1 ≤ frame_rights states (Routine a) n
  pub views : (r n : ℕ) → is_view (kind_of (state_of states a) r) ≡ true → Reads s a r n
      → under ≡ Some (Walk n)
  pub on : OnWalk set under a
  pub lent : IsOfSort set a Hold → (state_of states a).settled ≡ SettledMark

-- a completion routine lets the completion go on, or is lent the packet
pub completion_sort : (sort : Sort) → is_completion sort ≡ true → (sort ≡ Propagate) ⊎ (sort ≡ Hold)
completion_sort Propagate is = inl refl
completion_sort Hold is = inr refl
completion_sort _ is = cc

module _ (set : Set) (states : States) (s : Shared) (past : List Entry) (actor : Actor) (t : ℕ)
    (under : Option Frame) (a : Activation) (h : StepsRoutine set states s past under a) where
  -- a routine goes on, and nothing of packets changes
  on_used : (after : Shared) (b : Activation) (actions : List Action) (reply : Reply)
      → (state_of states b).settled ≡ (state_of states a).settled → after.packets ≡ s.packets
      → ((n : ℕ) → list_any (is_about n) actions ≡ false)
      → UseStep states s past actor under (Routine a)
      (record (leaves after (Routine b ∷ []) actions) { reply = reply })
  on_used after b actions reply settled packets quiet n =
      apart_at states s past actor under (Routine a)
      (record (leaves after (Routine b ∷ []) actions) { reply = reply }) n
      (record {
        there = ap (λ (ps : List Packet). find ps n) packets;
        quiet = quiet n;
        late = λ p there. one_late states p.pending_returned n under a b settled;
      })

  settled_on : (i : Instr) (b : Activation) (jumped : Bool) → Executing set a i
      → GoesTo a i b jumped
      → settles i ≡ false → (state_of states b).settled ≡ (state_of states a).settled
  settled_on i b jumped at goes quiet =
      ap (λ (state : Abs). state.settled) (arrives set states s a i (h.runs i at) b jumped goes)
      ∙ onto_settled set a.driver (state_of states a) i jumped quiet

  settled_next : (i : Instr) → Executing set a i → has_next (flow_of i) ≡ true → settles i ≡ false
      → (states a.driver a.routine (a.position + 1)).settled ≡ (state_of states a).settled
  settled_next i at leads quiet =
      ap (λ (state : Abs). state.settled) (arrives_next set states s a i (h.runs i at) leads)
      ∙ onto_settled set a.driver (state_of states a) i false quiet

  queued_settled : (i : Instr) (b : Activation) (queues : List (List (List ℕ)))
      (lists : List StartState) (actions : List Action) (full : Bool) → Executing set a i
      → Queued set s a i b queues lists actions full
      → (state_of states b).settled ≡ (state_of states a).settled
  queued_settled i b queues lists actions full at queued =
      let on : MovedOn set states s a i b queues lists = queue_moves set states s a i (h.runs i at)
      queued in
      ap (λ (state : Abs). state.settled) on.moved.arrives
      ∙ onto_settled set a.driver (state_of states a) i on.jumped
      (quiet_work i (ap keeps_settled (queued_work queued)))

  waits_settled : (i : Instr) → Executing set a i → {starts : List StartState} {n : ℕ}
      {armer : Option Armer} {full : Bool} → Waits set s a i starts n armer full
      → (state_of states (next a)).settled ≡ (state_of states a).settled
  waits_settled i at waits =
      let on : MovedOn set states s a i (next a) s.queues _ =
      waits_move set states s a i (h.runs i at)
      waits in
      ap (λ (state : Abs). state.settled) on.moved.arrives
      ∙ onto_settled set a.driver (state_of states a) i on.jumped
      (quiet_work i (ap keeps_settled (waits_work waits)))

  settled_word : (i : Instr) → Executing set a i → LockWord i
      → (states a.driver a.routine (a.position + 1)).settled ≡ (state_of states a).settled
  settled_word i at word =
      settled_next i at (falls_next (flow_of i) word.on) (quiet_work i (ap keeps_settled word.work))

  -- a look
  looks_used : (i : Instr) (b : Activation) (jumped : Bool) (r n : ℕ) (p : Packet)
      → Executing set a i
      → GoesTo a i b jumped → Reads s a r n → packet_of s n ≡ Some p
      → LooksSo (state_of states a) (onto set a.driver (state_of states a) i jumped) r p
      → UseStep states s past actor under (Routine a) (goes_on s b (Touches n ∷ []))
  looks_used i b jumped r n p at goes reads there (inl same) =
      on_used s b (Executes ∷ Touches n ∷ []) Stepped
      (ap (λ (state : Abs). state.settled) (arrives set states s a i (h.runs i at) b jumped goes)
      ∙ same) refl
      (λ m. refl)
  looks_used i b jumped r n p at goes reads there (inr views) =
      let walk : under ≡ Some (Walk n) = h.views r n views.0 reads in
      let seen : late_mark p.pending_returned (state_of states b).settled
      ≡ late_mark p.pending_returned (state_of states a).settled =
      ap (λ (state : Abs). late_mark p.pending_returned state.settled)
      (arrives set states s a i (h.runs i at) b jumped goes) ∙ views.1 in
      λ m. apart_at states s past actor under (Routine a) (goes_on s b (Touches n ∷ [])) m
      (record {
        there = refl;
        quiet = refl;
        late = λ x is.
            let same : late_on states x.pending_returned m under (Routine b)
            ≡ late_on states x.pending_returned m under (Routine a) =
            elim (eqb_tells n m) [
              | inl e ↦
                  let both : Some p ≡ Some x = sym (found s n (Some p) there)
                  ∙ ap (find s.packets) e.1 ∙ is in
                  let one : p ≡ x = cc in
                  rw (walk, e.0, ← one) seen
              | inr e ↦ walk_other states x.pending_returned n m under a b walk e.0
            ] in
            omega arith;
      })

  -- a mark of a packet that is live
  record MarksIt (n : ℕ) (p : Packet) : Type 0 where
    due : (p.completing ≡ false) ⊎ (late_on states p.pending_returned n under (Routine a) ≡ 1)
    others : (m : ℕ) (returned : Bool) → nat_eq n m ≡ false
        → late_on states returned m under (Routine (next a))
        ≡ late_on states returned m under (Routine a)

  mark_due : (late : Bool → ℕ) (p : Packet) (o : Option Packet) (own : ℕ) → o ≡ Some p
      → own ≤ late p.pending_returned → (p.completing ≡ false) ⊎ (own ≡ 1)
      → (p.completing ≡ false) ⊎ (1 ≤ late_of late o)
  mark_due late p o own there le (inl free) = inl free
  mark_due late p o own there le (inr one) =
      let same : late_of late o ≡ late p.pending_returned = ap (late_of late) there in inr
      (omega arith)

  marks_it : (n : ℕ) (p : Packet) → packet_of s n ≡ Some p → MarksIt n p
      → UseStep states s past actor under (Routine a)
      (goes_on (with_packet s n (mark_current p)) (next a) (Touches n ∷ Marks n ∷ []))
  marks_it n p there known =
      let at : find s.packets n ≡ Some p = found s n (Some p) there in
      let number : p.number ≡ n = numbered s n p there in
      let o : Outcome = goes_on (with_packet s n (mark_current p)) (next a)
      (Touches n ∷ Marks n ∷ []) in
      split_step states s past actor under (Routine a) o n
      (becomes_at states s past actor under (Routine a) o n
      (λ late lately lates. gets_marked (record {
        p = p;
        was = at;
        now = found_put s n p (mark_current p) at number;
        used = refl;
        marked = λ u. refl;
        left = λ u. refl;
        sized = rw (eq-eqb n n refl) refl;
        due = mark_due late p (find s.packets n)
            (late_on states p.pending_returned n under (Routine a)) at
            (lates.own p.pending_returned) known.due;
      })))
      (λ m apart. record {
        there = found_other s n m p (mark_current p) at number apart;
        quiet = rw apart refl;
        late = λ x is.
            omega (arith, known.others m x.pending_returned apart);
      })

  free_there : (r n : ℕ) (p : Packet) → is_right (kind_of (state_of states a) r) ≡ true
      → Reads s a r n
      → packet_of s n ≡ Some p → p.completing ≡ false
  free_there r n p right reads there =
      let some : 1 ≤ frame_rights states (Routine a) n = h.owns r n right reads in
      let all : frame_rights states (Routine a) n ≤ unheld (find s.packets n) = h.rights n in
      let own : (q : Packet) × (find s.packets n ≡ Some q) × (q.completing ≡ false) =
      own_if (find s.packets n) (omega arith) in
      let both : Some own.0 ≡ Some p = sym own.1 ∙ found s n (Some p) there in
      let same : own.0 ≡ p = cc in
      ap (λ (q : Packet). q.completing) (sym same) ∙ own.2

  marks_used : (r n : ℕ) (p : Packet) → Executing set a (Mark r) → Reads s a r n
      → packet_of s n ≡ Some p
      → MarksIt n p
  marks_used r n p at reads there =
      let k : Kind = kind_of (state_of states a) r in
      elim (marked_kind (state_of states a).settled k (h.runs (Mark r) at).obeys) [
        | inl new ↦
            let settled : (state_of states (next a)).settled ≡ (state_of states a).settled =
            ap (λ (state : Abs). state.settled)
            (arrives_next set states s a (Mark r) (h.runs (Mark r) at) refl)
            ∙ new_settled (state_of states a) r k new in
            record {
              due = inl (free_there r n p (rw new refl) reads there);
              others = λ m returned apart. late_still states returned m under a (next a) settled;
            }
        | inr view ↦
            let walk : under ≡ Some (Walk n) = h.views r n (rw view.0 refl) reads in
            record {
              due = inr (rw (walk, eq-eqb n n refl, view.1) refl);
              others =
                  λ m returned apart. walk_other states returned n m under a (next a) walk apart;
            }
      ]

  -- a packet is sent down in a location of its own
  calls_used : (r : ℕ) (f : Option ℕ) (n : ℕ) (p : Packet) (lower : ℕ) → Executing set a (Call r f)
      → Reads s a r n
      → packet_of s n ≡ Some p → is_right (kind_of (state_of states a) r) ≡ true
      → first_fault past actor (Executes ∷ Touches n ∷ Calls n ∷ []) ≡ None
      → UseStep states s past actor under (Routine a)
      (leaves (with_packet s n (sent_down p lower (set_by a f))) (asks set a lower p n)
      (Executes ∷ Touches n ∷ Calls n ∷ []))
  calls_used r f n p lower at reads there right quiet =
      let here : find s.packets n ≡ Some p = found s n (Some p) there in
      let number : p.number ≡ n = numbered s n p there in
      let q : Packet = sent_down p lower (set_by a f) in
      let g : Frame =
      Routine (dispatched set lower (slice_get set.devices lower)
      (asked_of (current_location p)) n) in
      let o : Outcome =
      leaves (with_packet s n q) (asks set a lower p n) (Executes ∷ Touches n ∷ Calls n ∷ []) in
      let now : find o.shared.packets n ≡ Some q = found_put s n p q here number in
      let free : p.completing ≡ false = free_there r n p right reads there in
      let settled : (state_of states (next a)).settled ≡ (state_of states a).settled =
      settled_next (Call r f) at refl refl in
      let sent : Option Bug =
      bug_if (nat_le (stack_size past n) (depth past n)) NoMoreIrpStackLocations (PacketSubject n)
      in
      let room : nat_le (stack_size past n) (depth past n) ≡ false =
      bug_none (nat_le (stack_size past n) (depth past n)) NoMoreIrpStackLocations (PacketSubject n)
      (none_first sent None
      (none_later (bug_if (topped past n) IrqlNotLessOrEqual (PacketSubject n)) (first_or sent None)
      quiet)) in
      split_step states s past actor under (Routine a) o n
      (becomes_at states s past actor under (Routine a) o n (λ late lately lates.
      let none : (returned : Bool) → late returned
      ≡ 0 = lates.free (ap held here ∙ held_free p free) in
      goes_down (record {
        p = p;
        device = lower;
        completion = set_by a f;
        was = here;
        now = now;
        used = rw (eq-eqb n n refl) refl;
        marked = λ u. refl;
        left = λ u. refl;
        sized = rw (eq-eqb n n refl) refl;
        room = leb-false (stack_size past n) (depth past n) room;
        free = free;
        none = none_late late (find s.packets n) none;
        still = none_late lately (find o.shared.packets n) (λ returned.
            omega (
              arith,
              lates.even returned,
              none returned,
              two_late states returned n under a (next a) g settled,
            ));
      })))
      (λ m apart. record {
        there = found_other s n m p q here number apart;
        quiet = rw apart refl;
        late = λ x is. two_late states x.pending_returned m under a (next a) g settled;
      })

  -- a return
  carried_up : (form : Return) → Executing set a (Ret form)
      → sort_of set a.driver a.routine ≡ Propagate
      → (state_of states a).settled ≡ SettledMark
  carried_up form at is =
      settled_mark (state_of states a) (sort_of set a.driver a.routine) form is
      (returns_by (state_of states a) (sort_of set a.driver a.routine) set a.driver form
      (h.runs (Ret form) at).obeys).settled

  all_carried : (form : Return) → Executing set a (Ret form) → IsCompleting set a
      → (state_of states a).settled ≡ SettledMark
  all_carried form at is =
      elim (completion_sort (sort_of set a.driver a.routine) is) [
        | inl propagates ↦ carried_up form at propagates
        | inr holds ↦ h.lent holds
      ]

  pub none_on : (form : Return) → Executing set a (Ret form) → (returned : Bool) (n : ℕ)
      (u : Option Frame)
      → OnWalk set u a → late_on states returned n u (Routine a) ≡ 0
  none_on form at returned n None on = refl
  none_on form at returned n (Some (Routine b)) on = refl
  none_on form at returned n (Some (CancelFrame c)) on = refl
  none_on form at returned n (Some (Walk m)) on =
      rw (all_carried form at on) (cond_both (nat_eq m n) 0 0 (λ x. x ≡ 0) (λ is. refl)
      (λ isnt. refl))

  left_used : (form : Return) (o : Outcome) → Executing set a (Ret form) → o.frames ≡ []
      → o.shared ≡ s
      → ((n : ℕ) → list_any (is_about n) o.actions ≡ false)
      → UseStep states s past actor under (Routine a) o
  left_used form o at none same quiet n =
      apart_at states s past actor under (Routine a) o n
      (record {
        there = ap (λ (x : Shared). find x.packets n) same;
        quiet = quiet n;
        late = λ p there.
            ap (λ (frames : List Frame). late_in states p.pending_returned n under frames) none
            ∙ sym (none_on form at p.pending_returned n under h.on);
      })

  -- every step of a routine
  pub routine_used : (below : Option Frame) (o : Outcome) → Comes set s t below (Routine a) o
      → first_fault past actor o.actions ≡ None
      → UseStep states s past actor under (Routine a) o
  routine_used below o (errs b lacks) quiet =
      on_used s a (GoesWrong ∷ []) (goes_wrong s a).reply refl refl (λ n. refl)
  routine_used below o (awaits_lock b i lock owner at taken owned other) quiet =
      on_used s a [] Waited refl refl (λ n. refl)
  routine_used below o (computes b i c jumped cells at work goes long) quiet =
      on_used (record s { cells = cells }) c (Executes ∷ []) Stepped
      (settled_on i c jumped at goes (quiet_work i (ap keeps_settled work))) refl (λ n. refl)
  routine_used below o (opens_loop b turns at room) quiet =
      on_used s (next
      (with_loops a (a.loops.items ++ record { start = a.position + 1; turns = turns } ∷ [])))
      (Executes ∷ []) Stepped (settled_next (Loop turns) at refl refl) refl (λ n. refl)
  routine_used below o (turns_loop b l at there) quiet =
      on_used s (turned a l) (Executes ∷ []) Stepped
      (ap (λ (state : Abs). state.settled) (h.ends l at there)) refl (λ n. refl)
  routine_used below o (pages b i c cell cells at work goes long) quiet =
      on_used (record s { cells = cells }) c (Executes ∷ TouchesPaged cell ∷ []) Stepped
      (settled_on i c false at goes (quiet_work i (ap keeps_settled work))) refl (λ n. refl)
  routine_used below o (touches_gone b i r n at touching on operand reads gone) quiet =
      absurd (not_gone s past n h.tells (touch_top past actor n quiet) (named s _ n reads) gone)
  routine_used below o (looks_at b i c jumped r n p at work goes operand reads there jumps) quiet =
      looks_used i c jumped r n p at goes reads there
      (looks_so (state_of states a) i (sort_of set a.driver a.routine) set a.driver r p jumped
      (h.runs i at).obeys work
      operand jumps)
  routine_used below o (writes_info b q r n p info at reads there number) quiet =
      written_step states s past actor under (Routine a) n p (with_info p info)
      (Routine (next a) ∷ []) (Executes ∷ Touches n ∷ []) there
      refl refl (λ k. refl)
      refl refl refl (λ done. done) (λ m. refl)
      (λ returned m. one_late states returned m under a (next a)
      (settled_next (Put q r) at refl refl))
  routine_used below o (marks_packet b r n p at reads there) quiet =
      marks_it n p there (marks_used r n p at reads there)
  routine_used below o (exchanges b i c jumped r n p armer at work goes operand reads there how)
      quiet =
      written_step states s past actor under (Routine a) n p (with_armer p armer) (Routine c ∷ [])
      (Executes ∷ Touches n ∷ Exchanges n (is_some armer) ∷ []) there refl refl (λ k. refl) refl
      refl refl (λ done. done) (λ m. refl)
      (λ returned m. one_late states returned m under a c
      (settled_on i c jumped at goes (quiet_work i (ap keeps_settled work))))
  routine_used below o (works_on_waiting b i starts n p armer full at there waits) quiet =
      written_step states s past actor under (Routine a) n p (with_armer p armer)
      (Routine (next a) ∷ [])
      (Executes ∷ Touches n ∷ Exchanges n (is_some armer) ∷ []) there refl refl (λ k. refl) refl
      refl refl (λ done. done) (λ m. refl)
      (λ returned m. one_late states returned m under a (next a) (waits_settled i at waits))
  routine_used below o (takes_lock b i lock at taken free) quiet =
      on_used (with_locks s (with_owner s.locks lock (Some t))) (next a)
      (Executes ∷ Acquires lock ∷ []) Stepped
      (settled_word i at (taken_word a i lock taken)) refl (λ n. refl)
  routine_used below o (retakes_lock b i lock at taken own) quiet =
      on_used s (next a) (Executes ∷ Acquires lock ∷ []) Stepped
      (settled_word i at (taken_word a i lock taken)) refl (λ n. refl)
  routine_used below o (frees_lock b i lock owner at freed owned) quiet =
      on_used (with_locks s (with_owner s.locks lock None)) (next a) (Executes ∷ Releases lock ∷ [])
      Stepped
      (settled_word i at (freed_word a i lock freed)) refl (λ n. refl)
  routine_used below o (works_on_queues b i c queues starts actions full at queued) quiet =
      let settled : (state_of states c).settled ≡ (state_of states a).settled =
      queued_settled i c queues starts actions full at queued in
      let after : Shared = record s { queues = queues; starts = starts } in
      elim (queued_touches queued) [
        | inl none ↦ rw none (on_used after c (Executes ∷ []) Stepped settled refl (λ n. refl))
        | inr one ↦
            rw one.1 (on_used after c (Executes ∷ Touches one.0 ∷ []) Stepped settled refl
            (λ n. refl))
      ]
  routine_used below o (completes_packet b r status n p at reads there) quiet =
      written_step states s past actor under (Routine a) n p (completed p status)
      (Routine (next a) ∷ Walk n ∷ [])
      (Executes ∷ Completes n ∷ []) there refl
      refl (λ k. refl) refl refl refl (λ done. refl) (λ m. refl)
      (λ returned m. two_late states returned m under a (next a) (Walk n)
      (settled_next (Complete r status) at refl refl))
  routine_used below o (completes_gone b r status n at reads gone) quiet =
      on_used s (next a) (Executes ∷ Completes n ∷ []) Stepped
      (settled_next (Complete r status) at refl refl) refl
      (λ m. refl)
  routine_used below o (passes_down b r n p lower at reads there under_it) quiet =
      written_step states s past actor under (Routine a) n p (shared_with p lower)
      (asks set a lower p n) (Executes ∷ Touches n ∷ [])
      there refl refl
      (shared_marks p.locations.items (p.depth - 1) lower)
      (shared_completion p.locations.items (p.depth - 1) lower 0)
      refl (shared_length (slice_get p.locations.items (p.depth - 1)) p.locations.items
      (p.depth - 1) lower)
      (λ done. done) (λ m. refl)
      (λ returned m. two_late states returned m under a (next a)
      (Routine (dispatched set lower (slice_get set.devices lower) (asked_of (current_location p))
      n))
      (settled_next (Pass r) at refl refl))
  routine_used below o (calls_down b r f n p lower at reads there under_it) quiet =
      calls_used r f n p lower at reads there
      (down set states s a (Call r f) r (h.runs (Call r f) at) refl refl).right quiet
  routine_used below o (returns_status b form status at sort there) quiet =
      left_used form o at refl refl (λ n. refl)
  routine_used below o (lets_go b at sort bare) quiet =
      left_used Continue o at refl refl (λ n. refl)
  routine_used below o (ends_startio b at sort) quiet = left_used Void o at refl refl (λ n. refl)
  routine_used below o (ends_dpc b at sort) quiet = left_used Void o at refl refl (λ n. refl)
  routine_used below o (lets_walk b n at sort) quiet = left_used Continue o at refl refl (λ m. refl)
  routine_used below o (resumes_walk b n p at sort there) quiet =
      written_step states s past actor under (Routine a) n p (record p { completing = true }) []
      (Executes ∷ Touches n ∷ Continues n ∷ []) there refl refl (λ k. refl) refl refl refl
      (λ done. refl) (λ m. refl)
      (λ returned m. sym (none_on Continue at returned m under h.on))
  routine_used below o (resumes_gone b n at sort gone) quiet =
      left_used Continue o at refl refl (λ m. refl)
  routine_used below o (resumes_none b at sort bare) quiet =
      left_used Continue o at refl refl (λ m. refl)
  routine_used below o (stops_walk b n at sort) quiet = left_used Stop o at refl refl (λ m. refl)
  routine_used below o (stops_none b at sort bare) quiet = left_used Stop o at refl refl (λ m. refl)
  routine_used below o (ends_cancel b at sort) quiet = left_used Void o at refl refl (λ m. refl)
