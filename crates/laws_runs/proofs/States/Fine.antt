-- A step of a frame that stands as it should, and touches no packet that has topped out: it isn't
-- wrong, and what it leaves stands as it should.
use Rattle.laws_runs.proofs.Prelude.{ap, arith, inl, inr, refl, subst, sym, ◌-◌, ◌∙◌, list_any, Bool, List, None, Option, Some, [], false, is_some, length, nat_lt, slice_get, slice_set, true, ℕ, ◌&&◌, ◌+◌, ◌<◌, ◌||◌, ◌∷◌, ◌≡◌, ◌≤◌, Acquires, Action, Completes, Exchanges, Executes, GoWrong, Marks, OfRoutine, Releases, Touches, TouchesPaged, Outcome, answered, answered_in, asks, completes_with, dispatched, goes_on, goes_on_cancelling, leaves, operand_of, routine_of_device, set_by, bug_if, completing, first_fault, topped, given_down, handed, holds_lock, is_completion, kind_of, StartState, Set, cancel_routine_named, cancel_routine_of, flow_of, has_cancel, instruction_at, lower_of, sort_of, Actor, Entry, Shared, asked_of, cancelled, completed, current_location, entered, left_location, mark_current, moved_up, next, packet_of, place_of, register, sent_down, shared_with, with_armer, with_info, with_locks, with_owner, with_packet, Abs, Kind, New, BugCheck, IrqlNotLessOrEqual, SystemCancel, Subject, PacketSubject, Instr, Call, Complete, End, Loop, Mark, Pass, Put, MAX_LIVE_PACKETS, DeviceQueue, Sort, Cancel, Dispatch, Dpc, Hold, Propagate, StartIo, Status, Activation, Armer, CancelStep, Exchange, SetFlag, Canceller, Frame, CancelFrame, Routine, Walk, Packet, Ref, StatusValue}
use Rattle.laws_runs.proofs.States.NoViews.{is_deferred}
use Rattle.model.specs.declared.event.BugCheck.TheVariants.{MultipleIrpCompleteRequests}
use Rattle.model.specs.Effect.{told_in}
use Rattle.laws_runs.proofs.Lists.{length_removed, all_at, each_remove}
use Rattle.laws_runs.proofs.Past.LivePackets.{find}
use Rattle.laws_runs.proofs.Past.Packets.{Tells, found, named, lt_true}
use Rattle.laws_runs.proofs.Runs.Events.{stops_run}
use Rattle.laws_runs.proofs.States.Entering.{IsOfSort, Begins, begins_lower, begins_back, IsCompleting, begins_lent, begins_cancelled}
use Rattle.laws_runs.proofs.States.Fits.{with_queues_fits, CompletionLeads, PacketLeads, Fits, mark_leads, shared_leads, sent_leads, packet_leads, with_packet_fits, with_cells_fits, with_owner_fits, word_leads, WordLeads, ArmerLeads}
use Rattle.laws_runs.proofs.States.Frames.{state_of, Serves, Ready, Moved, Runs}
use Rattle.laws_runs.proofs.States.Kinds.{given_kinds}
use Rattle.laws_runs.proofs.States.Known.{Continues, SetBy, CallLeads}
use Rattle.laws_runs.proofs.States.Lacking.{never_lacks, taken_there, freed_there, down}
use Rattle.laws_runs.proofs.States.LoopEnds.{moved_loop, moved_end}
use Rattle.laws_runs.proofs.States.Moves.{moved_on, falls_next, moved, moved_next, arrives_next}
use Rattle.laws_runs.proofs.States.Obeyed.{SendsDown, CompletesOne, completes_one}
use Rattle.laws_runs.proofs.States.OnTop.{OnTop, at_routine, runs}
use Rattle.laws_runs.specs.ArrivingStates.{States}
use Rattle.laws_runs.proofs.States.Stacks.{Stands, Replaces}
use Rattle.laws_runs.proofs.States.Told.{told_frame}
use Rattle.laws_runs.proofs.Steps.Comes.{Comes, errs, awaits_lock, computes, opens_loop, turns_loop, pages, touches_gone, looks_at, writes_info, marks_packet, takes_lock, retakes_lock, frees_lock, completes_packet, completes_gone, passes_down, calls_down, returns_status, lets_go, lets_walk, ends_dpc, walks_gone, walks_to, walks_up, carries_up, tops_out, works_on_queues, ends_startio, exchanges, resumes_walk, resumes_gone, resumes_none, stops_walk, stops_none, ends_cancel, lends_to, cancels, Cancels, Exchanged, takes_cancel, arms_for, disarms, retakes_cancel, awaits_cancel, flags_gone, sets_flag, exchanges_gone, finds_empty, finds_none, calls_cancel}
use Rattle.laws_runs.proofs.Steps.Locking.{freed_word, taken_word}
use Rattle.laws_runs.proofs.Steps.Faults.{none_first}
use Rattle.laws_runs.proofs.Steps.Words.{Forwarding, is_forwarding, work_of, goes_next, packet_operand}
use Rattle.laws_runs.proofs.Tests.{or_left}
use Rattle.laws_runs.proofs.Steps.Queues.{queued_touches}
use Rattle.laws_runs.proofs.States.Queueing.{queue_moves, MovedOn}
use Rattle.laws_runs.proofs.Steps.Comes.{Waits, arms_waiting, disarms_next, works_on_waiting}
use Rattle.laws_runs.proofs.States.Queueing.{waits_move}

abbrev pub is_wrong : Action → Bool
is_wrong (OfRoutine GoWrong) = true
is_wrong _ = false

-- nothing goes wrong
pub record IsRight (o : Outcome) : Type 0 where
  pub silent : list_any is_wrong o.actions ≡ false
  pub right : stops_run o.reply ≡ false

cancels_right : (set : Set) (s : Shared) (t n : ℕ) (step : CancelStep) (o : Outcome)
    → Cancels set s t n step o → IsRight o
cancels_right set s t n step o (takes_cancel free) = record { silent = refl; right = refl }
cancels_right set s t n step o _ = record { silent = refl; right = refl }

pub is_right_step : (set : Set) (states : States) (s : Shared) (t : ℕ) (under : Option Frame)
    (f : Frame) (o : Outcome)
    → OnTop set states s f → Comes set s t under f o → IsRight o
is_right_step set states s t under f o h (errs a lacks) =
    absurd (never_lacks set states s a h lacks)
is_right_step set states s t under f o h (cancels n step made moves) =
    cancels_right set s t n step o moves
is_right_step set states s t under f o h
    (works_on_queues a i b queues starts actions full at queued) =
    elim (queued_touches queued) [
      | inl none ↦ rw none (record { silent = refl; right = refl })
      | inr one ↦ rw one.1 (record { silent = refl; right = refl })
    ]
is_right_step set states s t under f o h _ = record { silent = refl; right = refl }

-- a packet that was issued and hasn't topped out is live
pub not_gone : (s : Shared) (past : List Entry) (n : ℕ) → Tells s past → topped past n ≡ false
    → n < s.issued
    → packet_of s n ≡ None → ⊥
not_gone s past n tells not_topped low gone =
    let none : find s.packets n ≡ None = found s n None gone in
    let issued : nat_lt n s.issued ≡ true = lt_true n s.issued low in
    let no : false ≡ true = sym not_topped ∙ tells.gone n ∙ rw (issued, none) refl in
    cc

-- a frame that goes on, of the same routine, stands on what it stood on
same_sort : (set : Set) (a b : Activation) (sort : Sort) → b.driver ≡ a.driver
    → b.routine ≡ a.routine
    → IsOfSort set a sort → IsOfSort set b sort
same_sort set a b sort driver routine h =
    ap (λ (x : ℕ). sort_of set x b.routine) driver ∙ ap (λ (x : ℕ). sort_of set a.driver x) routine
    ∙ h

same_completing : (set : Set) (a b : Activation) → b.driver ≡ a.driver → b.routine ≡ a.routine
    → IsCompleting set a → IsCompleting set b
same_completing set a b driver routine h =
    ap is_completion (ap (λ (x : ℕ). sort_of set x b.routine) driver
    ∙ ap (λ (x : ℕ). sort_of set a.driver x) routine) ∙ h

never_both : (sort : Sort) → is_completion sort ≡ true → is_deferred sort ≡ true → ⊥
never_both Dispatch above deferred = cc
never_both StartIo above deferred = cc
never_both Dpc above deferred = cc
never_both Propagate above deferred = cc
never_both Hold above deferred = cc
never_both Cancel above deferred = cc

-- the frame below, where the one on it is gone
module _ (set : Set) (states : States) (issued : ℕ) where
  pub same_above : (a b : Activation) (g : Frame) → b.driver ≡ a.driver → b.routine ≡ a.routine
      → Stands set states issued (Some (Routine a)) g
      → Stands set states issued (Some (Routine b)) g
  same_above a b (Routine c) driver routine h =
      (same_sort set a b Dispatch driver routine h.0, h.1, h.2)
  same_above a b (CancelFrame c) driver routine h = absurd h
  same_above a b (Walk n) driver routine h = (same_completing set a b driver routine h.0, h.1)

  below_dispatch : (a : Activation) (status : Status) (g : Frame)
      → Stands set states issued (Some (Routine a)) g
      → Stands set states issued None (told_frame set (Some status) g)
  below_dispatch a status (Routine b) h = h.2 status
  below_dispatch a status (CancelFrame c) h = absurd h
  below_dispatch a status (Walk n) h = h.1

  -- a completion routine stands on the I/O manager's frame alone
  below_completing : (a : Activation) → IsCompleting set a → (g : Frame)
      → Stands set states issued (Some (Routine a)) g
      → Stands set states issued None (told_frame set None g)
  below_completing a above (Routine b) h =
      let no : false ≡ true = sym (ap is_completion h.0) ∙ above in cc
  below_completing a above (CancelFrame c) h = absurd h
  below_completing a above (Walk n) h = h.1

  -- a deferred routine on nothing
  below_deferred : (a : Activation) (sort : Sort) → IsOfSort set a sort → is_deferred sort ≡ true
      → (g : Frame) → Stands set states issued (Some (Routine a)) g
      → Stands set states issued None (told_frame set None g)
  below_deferred a sort is deferred (Routine b) h =
      let no : false ≡ true = sym (ap is_deferred h.0) ∙ ap is_deferred is ∙ deferred in cc
  below_deferred a sort is deferred (CancelFrame c) h = absurd h
  below_deferred a sort is deferred (Walk n) h =
      absurd (never_both (sort_of set a.driver a.routine) h.0 (ap is_deferred is ∙ deferred))

  -- and so does a frame of IoCancelIrp
  below_cancel : (c : Canceller) (told : Option Status) (g : Frame)
      → Stands set states issued (Some (CancelFrame c)) g
      → Stands set states issued None (told_frame set told g)
  below_cancel c told g h = absurd h

  below_walk : (n : ℕ) (g : Frame) → Stands set states issued (Some (Walk n)) g
      → Stands set states issued None (told_frame set None g)
  below_walk n (Routine a) h = h.0
  below_walk n _ h = absurd h

-- what a frame's step leaves
pub record StepLeaves (set : Set) (states : States) (s : Shared) (f : Frame) (o : Outcome) : Type 0
  where
    pub fits : Fits set o.shared
    pub issued : o.shared.issued ≡ s.issued
    pub stands : Replaces set states s.issued f o.told o.frames

set_leads : (set : Set) (a : Activation) (f : Option ℕ) → Serves set a.device a.driver
    → SetBy set a.driver f
    → CompletionLeads set (set_by a f)
set_leads set a None served h = tt
set_leads set a (Some number) served h =
    (served.0, served.1, subst (λ (driver : ℕ). Continues set driver number) (sym served.2) h)

-- a cancel word that is stored names a queue of the routine's device
exchanged_leads : (set : Set) (a : Activation) (p : Packet) (i : Instr) (jumped : Bool)
    (armer : Option Armer) → Serves set a.device a.driver → Exchanged set a p i jumped armer
    → ArmerLeads set armer
exchanged_leads set a p i jumped armer served (disarms r label) = tt
exchanged_leads set a p i jumped armer served (arms_for r q routine named) = (
  served.0,
  served.1,
  routine,
  ap (λ (driver : ℕ). cancel_routine_of set driver q) served.2 ∙ named,
)

and_first : (one other : Bool) → (one && other) ≡ true → one ≡ true
and_first true other h = refl
and_first false other h = cc

-- and so does the one that IoStartPacket sets
cancel_leads : (set : Set) (device driver : ℕ) (o : Option ℕ) → Serves set device driver
    → cancel_routine_named set driver DeviceQueue ≡ o → is_some o ≡ true
    → ArmerLeads set (Some (record { device = device; queue = DeviceQueue }))
cancel_leads set device driver None served named is = cc
cancel_leads set device driver (Some routine) served named is = (
  served.0,
  served.1,
  routine,
  ap (λ (d : ℕ). cancel_routine_named set d DeviceQueue) served.2 ∙ named,
)

waits_leads : (set : Set) (s : Shared) (a : Activation) (i : Instr) → Serves set a.device a.driver
    → {starts : List StartState} {n : ℕ} {armer : Option Armer} {full : Bool}
    → Waits set s a i starts n armer full → ArmerLeads set armer
waits_leads set s a i served (disarms_next n start there first) = tt
waits_leads set s a i served (arms_waiting r n start reads there armed) =
    cancel_leads set a.device a.driver (cancel_routine_named set a.driver DeviceQueue) served refl
    (and_first (has_cancel set a.driver DeviceQueue) start.busy armed)

told_operand : (i : Instr) → work_of i ≡ Forwarding → told_in i ≡ packet_operand i
told_operand (Pass r) is = refl
told_operand (Call r f) is = refl
told_operand _ is = cc

down_next : (i : Instr) → work_of i ≡ Forwarding → goes_next i ≡ true
down_next (Pass r) is = refl
down_next (Call r f) is = refl
down_next _ is = cc

given_free : (s : Abs) (r : ℕ) (k : Kind) → holds_lock (given_down s r k) ≡ holds_lock s
given_free s r New = refl
given_free s r _ = refl

pub bug_none : (b : Bool) (check : BugCheck) (subject : Subject) → bug_if b check subject ≡ None
    → b ≡ false
bug_none false check subject h = refl
bug_none true check subject h = cc

-- where there is no bug check, what is touched or completed hasn't topped out
module _ (past : List Entry) (actor : Actor) (n : ℕ) where
  pub touch_top : first_fault past actor (Executes ∷ Touches n ∷ []) ≡ None → topped past n ≡ false
  touch_top quiet =
      bug_none (topped past n) IrqlNotLessOrEqual (PacketSubject n) (none_first _ None quiet)

  pub completion_top : first_fault past actor (Executes ∷ Completes n ∷ []) ≡ None
      → topped past n ≡ false
  completion_top quiet =
      or_left (topped past n) (completing past n)
      (bug_none (topped past n || completing past n) MultipleIrpCompleteRequests (PacketSubject n)
      (none_first _ _ (none_first _ None quiet)))

module _ (set : Set) (states : States) (s : Shared) (a : Activation) (i : Instr)
    (h : Runs set states s a i) where
  -- a routine that sends a packet down goes on whatever status it is told
  pub moved_told : (r : ℕ) → work_of i ≡ Forwarding → packet_operand i ≡ Some r → (status : Status)
      → Moved set states s.issued a
      (record a {
        position = a.position + 1;
        registers = slice_set a.registers r
            (StatusValue status);
      })
      (handed set a.driver (state_of states a) i)
  moved_told r is operand status =
      let rule : SendsDown (state_of states a) (sort_of set a.driver a.routine) set a.driver i r =
      down set states s a i r h is operand in
      moved_next set states s a i h (down_next i is) (slice_set a.registers r (StatusValue status))
      (rw rule.after
      (given_kinds (state_of states a) (sort_of set a.driver a.routine) set a.driver s.issued
      a.registers r
      (kind_of (state_of states a) r) status rule.right rule.unqueued h.stays.kinds))

  pub answered_is : (r : ℕ) → work_of i ≡ Forwarding → packet_operand i ≡ Some r → (status : Status)
      → answered set (next a) status
      ≡ record a {
        position = a.position + 1;
        registers = slice_set a.registers r
            (StatusValue status);
      }
  answered_is r is operand status =
      let back : a.position + 1 - 1 ≡ a.position = omega arith in
      let there : instruction_at set a.driver a.routine (a.position + 1 - 1) ≡ Some i =
      ap (λ (p : ℕ). instruction_at set a.driver a.routine p) back
      ∙ at_routine set h.routine a h.stays.is_of ∙ h.here
      in
      ap (λ (o : Option ℕ). answered_in (next a) status o)
      (ap operand_of there ∙ told_operand i is ∙ operand)

  pub told_ready : (r : ℕ) → work_of i ≡ Forwarding → packet_operand i ≡ Some r → (status : Status)
      → Ready set states s.issued (answered set (next a) status)
  told_ready r is operand status =
      subst (λ (b : Activation). Ready set states s.issued b)
      (sym (answered_is r is operand status))
      (moved_told r is operand status).ready

  -- frames in place of the routine's
  pub asks_fine : (r lower n : ℕ) (p : Packet) → work_of i ≡ Forwarding → packet_operand i ≡ Some r
      → lower_of set a.device ≡ Some lower → n < s.issued
      → Replaces set states s.issued (Routine a) None (asks set a lower p n)
  asks_fine r lower n p is operand there low =
      let rule : SendsDown (state_of states a) (sort_of set a.driver a.routine) set a.driver i r =
      down set states s a i r h is operand in
      let begins : Begins set states s.issued
      (dispatched set lower (slice_get set.devices lower) (asked_of (current_location p)) n)
      Dispatch n =
      begins_lower set states h.good s.issued n low a.device lower (asked_of (current_location p))
      there in
      let here : states a.driver a.routine (a.position + 1)
      ≡ given_down (state_of states a) r (kind_of (state_of states a) r) =
      arrives_next set states s a i h (falls_next (flow_of i) (down_next i is)) ∙ rule.after in (
        refl,
        (
          (
            begins.of_sort,
            ap holds_lock here ∙ given_free (state_of states a) r (kind_of (state_of states a) r)
                ∙ rule.free,
            told_ready r is operand,
          ),
          begins.ready,
        ),
        λ g below. same_above set states s.issued a (next a) g refl refl below,
      )

-- what a step of IoCancelIrp leaves
module _ (set : Set) (states : States) (s : Shared) (t n : ℕ) where
  cancel_goes : (step : CancelStep) (after : Shared) (next : CancelStep) (actions : List Action)
      → OnTop set states s (CancelFrame (record { packet = n; next = step }))
      → Fits set after → after.issued ≡ s.issued
      → StepLeaves set states s (CancelFrame (record { packet = n; next = step }))
      (leaves after (goes_on_cancelling n next) actions)
  cancel_goes step after next actions h fits issued =
      record { fits = fits; issued = issued; stands = (refl, h.stands, λ g below. absurd below) }

  emptied_fits : Fits set s → (p : Packet) → packet_of s n ≡ Some p
      → Fits set (with_locks (with_packet s n (with_armer p None))
      (with_owner s.locks SystemCancel None))
  emptied_fits fits p there =
      with_owner_fits set (with_packet s n (with_armer p None))
      (with_packet_fits set s fits n (with_armer p None) (packet_leads set s fits n p there) tt)
      SystemCancel None tt

  -- what a cancel word names is there
  pub finds_one : Fits set s → (p : Packet) (armer : Armer) → packet_of s n ≡ Some p
      → p.armer ≡ Some armer
      → cancel_routine_named set (routine_of_device (slice_get set.devices armer.device))
      armer.queue
      ≡ None → ⊥
  finds_one fits p armer there word none =
      let leads : ArmerLeads set (Some armer) =
      subst (λ (o : Option Armer). ArmerLeads set o) word (word_leads set s fits n p there) in
      let driver : routine_of_device (slice_get set.devices armer.device) ≡ leads.0.driver =
      ap routine_of_device leads.1 in
      let no : None ≡ Some leads.2 =
      sym none ∙ ap (λ (d : ℕ). cancel_routine_named set d armer.queue) driver ∙ leads.3 in
      cc

  cancel_leaves : (step : CancelStep) (o : Outcome)
      → OnTop set states s (CancelFrame (record { packet = n; next = step }))
      → Cancels set s t n step o
      → StepLeaves set states s (CancelFrame (record { packet = n; next = step })) o
  cancel_leaves step o h (takes_cancel free) =
      cancel_goes step (with_locks s (with_owner s.locks SystemCancel (Some t))) SetFlag
      (Acquires SystemCancel ∷ []) h (with_owner_fits set s h.fits SystemCancel (Some t) tt) refl
  cancel_leaves step o h (retakes_cancel its) =
      cancel_goes step s SetFlag (Acquires SystemCancel ∷ []) h h.fits refl
  cancel_leaves step o h (awaits_cancel owner owned apart) =
      record { fits = h.fits; issued = refl; stands = (refl, h.stands, λ g below. absurd below) }
  cancel_leaves step o h (flags_gone gone) =
      record {
        fits = with_owner_fits set s h.fits SystemCancel None tt;
        issued = refl;
        stands = below_cancel set states s.issued (record { packet = n; next = step }) None;
      }
  cancel_leaves step o h (sets_flag p there) =
      cancel_goes step (with_packet s n (cancelled p)) Exchange [] h
      (with_packet_fits set s h.fits n (cancelled p) (packet_leads set s h.fits n p there)
      (word_leads set s h.fits n p there)) refl
  cancel_leaves step o h (exchanges_gone gone) =
      record {
        fits = with_owner_fits set s h.fits SystemCancel None tt;
        issued = refl;
        stands = below_cancel set states s.issued (record { packet = n; next = step }) None;
      }
  cancel_leaves step o h (finds_empty p there word) =
      record {
        fits = emptied_fits h.fits p there;
        issued = refl;
        stands = below_cancel set states s.issued (record { packet = n; next = step }) None;
      }
  cancel_leaves step o h (finds_none p armer there word named_none) =
      absurd (finds_one h.fits p armer there word named_none)
  cancel_leaves step o h (calls_cancel p armer routine there word named) =
      let leads : ArmerLeads set (Some armer) =
      subst (λ (o : Option Armer). ArmerLeads set o) word (word_leads set s h.fits n p there) in
      let begins : Begins set states s.issued
      (entered (routine_of_device (slice_get set.devices armer.device)) routine armer.device
      (Ref n))
      Cancel n = begins_cancelled set states h.good s.issued n h.stands armer routine leads named in
      record {
        fits = with_packet_fits set s h.fits n (with_armer p None)
            (packet_leads set s h.fits n p there) tt;
        issued = refl;
        stands = (refl, begins.ready, λ g below. absurd below);
      }

module _ (set : Set) (states : States) (s : Shared) (past : List Entry) (actor : Actor)
    (tells : Tells s past) where
  same_fine : (a b : Activation) (to : Abs) (after : Shared) (actions : List Action)
      → Moved set states s.issued a b to
      → Fits set after → after.issued ≡ s.issued
      → StepLeaves set states s (Routine a) (goes_on after b actions)
  same_fine a b to after actions m fits issued =
      record {
        fits = fits;
        issued = issued;
        stands = (
          refl,
          m.ready,
          λ g below. same_above set states s.issued a b g m.driver m.routine
              below,
        );
      }

  pub leaves_fine : (under : Option Frame) (f : Frame) (o : Outcome) → OnTop set states s f
      → first_fault past actor o.actions ≡ None → Comes set s actor.thread under f o
      → StepLeaves set states s f o
  leaves_fine under f o h quiet (errs a lacks) = absurd (never_lacks set states s a h lacks)
  leaves_fine under f o h quiet (awaits_lock a i lock owner at takes owned other) =
      record { fits = h.fits; issued = refl; stands = (refl, h.stands, λ g below. below) }
  leaves_fine under f o h quiet (computes a i b jumped cells at work to long) =
      same_fine a b _ (record s { cells = cells }) []
      (moved set states s a i (runs set states s a i h at) b jumped (rw work refl) to)
      (with_cells_fits set s h.fits cells long) refl
  leaves_fine under f o h quiet (opens_loop a turns at room) =
      same_fine a _ _ s [] (moved_loop set states s a turns (runs set states s a (Loop turns) h at))
      h.fits refl
  leaves_fine under f o h quiet (turns_loop a l at inner) =
      same_fine a _ _ s [] (moved_end set states s a (runs set states s a End h at) l inner) h.fits
      refl
  leaves_fine under f o h quiet (pages a i b cell cells at work to long) =
      same_fine a b _ (record s { cells = cells }) (TouchesPaged cell ∷ [])
      (moved set states s a i (runs set states s a i h at) b false (rw work refl) to)
      (with_cells_fits set s h.fits cells long) refl
  leaves_fine under f o h quiet (touches_gone a i r n at touches on operand reads gone) =
      absurd (not_gone s past n tells (touch_top past actor n quiet)
      (named s (register a r) n reads) gone)
  leaves_fine under f o h quiet
      (looks_at a i b jumped r n p at work to operand reads there branch) =
      same_fine a b _ s (Touches n ∷ [])
      (moved set states s a i (runs set states s a i h at) b jumped (rw work refl) to) h.fits refl
  leaves_fine under f o h quiet (writes_info a q r n p info at reads there number) =
      same_fine a (next a) _ (with_packet s n (with_info p info)) (Touches n ∷ [])
      (moved_on set states s a (Put q r) (runs set states s a (Put q r) h at) refl refl refl)
      (with_packet_fits set s h.fits n (with_info p info) (packet_leads set s h.fits n p there)
      (word_leads set s h.fits n p there)) refl
  leaves_fine under f o h quiet (marks_packet a r n p at reads there) =
      same_fine a (next a) _ (with_packet s n (mark_current p)) (Touches n ∷ Marks n ∷ [])
      (moved_on set states s a (Mark r) (runs set states s a (Mark r) h at) refl refl refl)
      (with_packet_fits set s h.fits n (mark_current p)
      (mark_leads set p (packet_leads set s h.fits n p there))
      (word_leads set s h.fits n p there)) refl
  leaves_fine under f o h quiet
      (exchanges a i b jumped r n p armer at work to operand reads there how) =
      same_fine a b _ (with_packet s n (with_armer p armer))
      (Touches n ∷ Exchanges n (is_some armer) ∷ [])
      (moved set states s a i (runs set states s a i h at) b jumped (rw work refl) to)
      (with_packet_fits set s h.fits n (with_armer p armer) (packet_leads set s h.fits n p there)
      (exchanged_leads set a p i jumped armer (runs set states s a i h at).stays.serves how)) refl
  leaves_fine under f o h quiet (takes_lock a i lock at takes free) =
      let run : Runs set states s a i = runs set states s a i h at in
      same_fine a (next a) _ (with_locks s (with_owner s.locks lock (Some actor.thread)))
      (Acquires lock ∷ [])
      (moved_on set states s a i run (taken_word a i lock takes).on
      (taken_word a i lock takes).keeps
      (ap is_forwarding (taken_word a i lock takes).work))
      (with_owner_fits set s h.fits lock (Some actor.thread)
      (taken_there set states s a i lock run takes)) refl
  leaves_fine under f o h quiet (retakes_lock a i lock at takes its) =
      same_fine a (next a) _ s (Acquires lock ∷ [])
      (moved_on set states s a i (runs set states s a i h at) (taken_word a i lock takes).on
      (taken_word a i lock takes).keeps
      (ap is_forwarding (taken_word a i lock takes).work)) h.fits refl
  leaves_fine under f o h quiet (frees_lock a i lock owner at frees owned) =
      let run : Runs set states s a i = runs set states s a i h at in
      same_fine a (next a) _ (with_locks s (with_owner s.locks lock None)) (Releases lock ∷ [])
      (moved_on set states s a i run (freed_word a i lock frees).on
      (freed_word a i lock frees).keeps
      (ap is_forwarding (freed_word a i lock frees).work))
      (with_owner_fits set s h.fits lock None (freed_there set states s a i lock run frees)) refl
  leaves_fine under f o h quiet (works_on_queues a i b queues starts actions full at queued) =
      let on : MovedOn set states s a i b queues starts =
      queue_moves set states s a i (runs set states s a i h at) queued in
      record {
        fits = with_queues_fits set s h.fits queues starts on.fits on.starts;
        issued = refl;
        stands = (
          refl,
          on.moved.ready,
          λ g below. same_above set states s.issued a b g on.moved.driver on.moved.routine below,
        );
      }
  leaves_fine under f o h quiet (works_on_waiting a i starts n p armer full at there waits) =
      let run : Runs set states s a i = runs set states s a i h at in
      let on : MovedOn set states s a i (next a) s.queues starts =
      waits_move set states s a i run waits
      in
      record {
        fits = with_queues_fits set (with_packet s n (with_armer p armer))
            (with_packet_fits set s h.fits n (with_armer p armer)
            (packet_leads set s h.fits n p there)
            (waits_leads set s a i run.stays.serves waits))
            s.queues starts on.fits on.starts;
        issued = refl;
        stands = (
          refl,
          on.moved.ready,
          λ g below. same_above set states s.issued a (next a) g on.moved.driver on.moved.routine
              below,
        );
      }
  leaves_fine under f o h quiet (completes_packet a r status n p at reads there) =
      let run : Runs set states s a (Complete r status) = runs set states s a (Complete r status) h
      at in
      let m : Moved set states s.issued a (next a)
      (handed set a.driver (state_of states a) (Complete r status)) =
      moved_on set states s a (Complete r status) run refl refl refl in
      let rule : CompletesOne (state_of states a) (sort_of set a.driver a.routine) set a.driver r
      status =
      completes_one (state_of states a) (sort_of set a.driver a.routine) set a.driver r status
      run.obeys in
      record {
        fits = with_packet_fits set s h.fits n (completed p status)
            (packet_leads set s h.fits n p there)
            (word_leads set s h.fits n p there);
        issued = refl;
        stands = (
          refl,
          ((m.ready, ap holds_lock m.arrives ∙ rule.free), named s (register a r) n reads),
          λ g below. same_above set states s.issued a (next a) g refl refl below,
        );
      }
  leaves_fine under f o h quiet (completes_gone a r status n at reads gone) =
      absurd (not_gone s past n tells (completion_top past actor n quiet)
      (named s (register a r) n reads) gone)
  leaves_fine under f o h quiet (passes_down a r n p lower at reads there below) =
      record {
        fits = with_packet_fits set s h.fits n (shared_with p lower)
            (shared_leads set p lower (packet_leads set s h.fits n p there))
            (word_leads set s h.fits n p there);
        issued = refl;
        stands = asks_fine set states s a (Pass r) (runs set states s a (Pass r) h at) r lower n p
            refl refl below
            (named s (register a r) n reads);
      }
  leaves_fine under f o h quiet (calls_down a r g n p lower at reads there below) =
      let run : Runs set states s a (Call r g) = runs set states s a (Call r g) h at in
      record {
        fits = with_packet_fits set s h.fits n (sent_down p lower (set_by a g))
            (sent_leads set p lower (set_by a g)
            (set_leads set a g run.stays.serves
            (all_at (CallLeads set a.driver) run.routine.code a.position (Call r g) run.known.calls
            run.here))
            (packet_leads set s h.fits n p there)) (word_leads set s h.fits n p there);
        issued = refl;
        stands = asks_fine set states s a (Call r g) run r lower n p refl refl below
            (named s (register a r) n reads);
      }
  leaves_fine under f o h quiet (returns_status a form status at sort is) =
      record { fits = h.fits; issued = refl; stands = below_dispatch set states s.issued a status }
  leaves_fine under f o h quiet (lets_go a at sort isnt) =
      record {
        fits = h.fits;
        issued = refl;
        stands = below_completing set states s.issued a
            (ap is_completion sort);
      }
  leaves_fine under f o h quiet (lets_walk a n at sort) =
      record {
        fits = h.fits;
        issued = refl;
        stands = below_completing set states s.issued a
            (ap is_completion sort);
      }
  leaves_fine under f o h quiet (ends_startio a at sort) =
      record {
        fits = h.fits;
        issued = refl;
        stands = below_deferred set states s.issued a StartIo
            sort refl;
      }
  leaves_fine under f o h quiet (ends_dpc a at sort) =
      record {
        fits = h.fits;
        issued = refl;
        stands = below_deferred set states s.issued a Dpc sort
            refl;
      }
  leaves_fine under f o h quiet (resumes_walk a n p at sort there) =
      record {
        fits = with_packet_fits set s h.fits n (record p { completing = true })
            (packet_leads set s h.fits n p there) (word_leads set s h.fits n p there);
        issued = refl;
        stands = below_completing set states s.issued a (ap is_completion sort);
      }
  leaves_fine under f o h quiet (resumes_gone a n at sort gone) =
      record {
        fits = h.fits;
        issued = refl;
        stands = below_completing set states s.issued a (ap is_completion sort);
      }
  leaves_fine under f o h quiet (resumes_none a at sort free) =
      record {
        fits = h.fits;
        issued = refl;
        stands = below_completing set states s.issued a (ap is_completion sort);
      }
  leaves_fine under f o h quiet (stops_walk a n at above) =
      record { fits = h.fits; issued = refl; stands = below_completing set states s.issued a above }
  leaves_fine under f o h quiet (stops_none a at above free) =
      record { fits = h.fits; issued = refl; stands = below_completing set states s.issued a above }
  leaves_fine under f o h quiet (ends_cancel a at sort) =
      record {
        fits = h.fits;
        issued = refl;
        stands = below_deferred set states s.issued a Cancel
            sort refl;
      }
  leaves_fine under f o h quiet (lends_to n p c there with sort) =
      let begins : Begins set states s.issued (completes_with set c n) Hold n =
      begins_lent set states s h.good h.fits n p c h.stands there with sort in
      record {
        fits = with_packet_fits set s h.fits n (record (moved_up (left_location p))
            { completing = false })
            (packet_leads set s h.fits n p there) (word_leads set s h.fits n p there);
        issued = refl;
        stands = (
          refl,
          ((ap is_completion begins.of_sort, h.stands), begins.ready),
          λ g below. below,
        );
      }
  leaves_fine under f o h quiet (cancels n step made moves) =
      cancel_leaves set states s actor.thread n step o h moves
  leaves_fine under f o h quiet (walks_gone n gone) =
      record { fits = h.fits; issued = refl; stands = below_walk set states s.issued n }
  leaves_fine under f o h quiet (walks_to n p c there with lends) =
      let begins : Begins set states s.issued (completes_with set c n) Propagate n =
      begins_back set states s h.good h.fits n p c h.stands there with lends in
      record {
        fits = with_packet_fits set s h.fits n (moved_up (left_location p))
            (packet_leads set s h.fits n p there)
            (word_leads set s h.fits n p there);
        issued = refl;
        stands = (
          refl,
          ((ap is_completion begins.of_sort, h.stands), begins.ready),
          λ g below. below,
        );
      }
  leaves_fine under f o h quiet (walks_up n p there without deep unmarked) =
      record {
        fits = with_packet_fits set s h.fits n (moved_up (left_location p))
            (packet_leads set s h.fits n p there)
            (word_leads set s h.fits n p there);
        issued = refl;
        stands = (refl, h.stands, λ g below. below);
      }
  leaves_fine under f o h quiet (carries_up n p there without deep marked) =
      record {
        fits = with_packet_fits set s h.fits n (mark_current (moved_up (left_location p)))
            (mark_leads set (moved_up (left_location p)) (packet_leads set s h.fits n p there))
            (word_leads set s h.fits n p there);
        issued = refl;
        stands = (refl, h.stands, λ g below. below);
      }
  leaves_fine under f o h quiet (tops_out n p there without last) =
      record {
        fits = record {
          cells = h.fits.cells;
          spin = h.fits.spin;
          rows = h.fits.rows;
          completions =
              each_remove (PacketLeads set) s.packets (place_of s.packets n) h.fits.completions;
          words = each_remove (WordLeads set) s.packets (place_of s.packets n) h.fits.words;
          queued = h.fits.queued;
          starts = h.fits.starts;
          few = (let few : length s.packets ≤ MAX_LIVE_PACKETS = h.fits.few in
              omega (arith, length_removed s.packets (place_of s.packets n)));
        };
        issued = refl;
        stands = below_walk set states s.issued n;
      }
