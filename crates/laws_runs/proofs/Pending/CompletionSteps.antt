-- What the steps of completion routines and of the I/O manager's frames tell: of the packet that is
-- on its way up or lent alone, and no status. Those of deferred routines and of IoCancelIrp tell
-- nothing.
use Rattle.laws_runs.proofs.Common.{ap, inl, inr, refl, subst, sym, ◌∙◌, eq-eqb, list_any, Bool, List, None, Option, Some, [], false, slice_get, true, ℕ, ⊤, ◌∷◌, ◌≡◌, ◌⊎◌, Action, Executes, Outcome, routine_of_device, is_new, is_view, completion_sort_fault, forward_fault, forward_sort_fault, is_completion, kind_of, refuses, StartState, Set, sort_of, Shared, entered, Abs, New, View, Instr, Call, Complete, Mark, Pass, Sort, Cancel, Dispatch, Hold, Propagate, Status, Activation, CancelStep, Canceller, Frame, CancelFrame, Routine, Walk, Ref, States, Begins, IsCompleting, begins_cancelled, ArmerLeads, word_leads, state_of, HasNone, handed_news, is_deferred, OnTop, first_none, second_none, Cancels, Comes, Executing, calls_cancel, calls_down, cancels, completes_packet, computes, ends_cancel, ends_dpc, ends_startio, exchanges, lets_go, lets_walk, looks_at, marks_packet, pages, passes_down, resumes_gone, resumes_none, resumes_walk, returns_status, stops_none, stops_walk, turns_loop, walks_gone, works_on_queues, goes_same, turned_same, queued_same, queued_touches}
use Rattle.std.proofs.Common.{set}
use Rattle.model.specs.LocalRule.{completion_fault}
use Rattle.laws_runs.proofs.Pending.Returned.{is_telling, tells_beyond}
use Rattle.laws_runs.proofs.Live.Sees.{IsDeferred, deferred_sort}
use Rattle.laws_runs.proofs.Steps.Comes.{Queued, Reads}
use Rattle.laws_runs.proofs.States.NoViews.{none_at}
use Rattle.laws_runs.proofs.Uses.RoutineSteps.{marked_kind}

-- no frame is left, or that of the routine alone
abbrev pub IsAlone : Activation → List Frame → Type 0
IsAlone a [] = ⊤
IsAlone a (Routine b ∷ []) = (b.driver ≡ a.driver) × (b.routine ≡ a.routine)
IsAlone a _ = ⊥

-- a completion routine goes on, or is gone; what it tells is of a packet that it was lent, or that
-- it sees on its way up
pub record Looks (states : States) (s : Shared) (m : ℕ) (a : Activation) (o : Outcome) : Type 0
  where
    pub told : o.told ≡ None
    pub alone : IsAlone a o.frames
    pub silent : list_any (tells_beyond m) o.actions ≡ false
    pub by : (list_any is_telling o.actions ≡ false)
        ⊎ ((r : ℕ) × (Reads s a r m)
        × ((kind_of (state_of states a) r ≡ New) ⊎ (kind_of (state_of states a) r ≡ View)))

-- it neither forwards nor completes
never_completes : (sort : Sort) → is_completion sort ≡ true → completion_sort_fault sort ≡ None → ⊥
never_completes Propagate is rule = cc
never_completes Hold is rule = cc
never_completes _ is rule = cc

never_forwards : (sort : Sort) → is_completion sort ≡ true → forward_sort_fault sort ≡ None → ⊥
never_forwards Propagate is rule = cc
never_forwards Hold is rule = cc
never_forwards _ is rule = cc

forwards_never : (s : Abs) (sort : Sort) (set : Set) (driver locations : ℕ)
    → is_completion sort ≡ true
    → forward_fault s sort set driver locations ≡ None → ⊥
forwards_never s sort set driver locations is rule =
    never_forwards sort is (first_none _ _ (second_none _ _ rule))

completes_never : (s : Abs) (status : Status) (sort : Sort) → is_completion sort ≡ true
    → completion_fault s status sort ≡ None → ⊥
completes_never s status sort is rule =
    never_completes sort is (second_none _ _ (second_none _ _ rule))

-- the instructions at the position of an activation break no rule
abbrev pub KeepsRules : Set → States → Activation → Type 0
KeepsRules set states a =
    (i : Instr) → Executing set a i → refuses (state_of states a) i (sort_of set a.driver a.routine)
    set a.driver ≡ None

pub never_new : (s : Abs) (r : ℕ) → HasNone is_new s → kind_of s r ≡ New → ⊥
never_new s r none new =
    let no : true ≡ false = sym (ap is_new new) ∙ none_at is_new handed_news s.kinds r none in cc

queued_beyond :
    (m : ℕ) {set : Set} {s : Shared} {a b : Activation} {i : Instr} {queues : List (List (List ℕ))}
    {lists : List StartState} {actions : List Action} {full : Bool}
    → Queued set s a i b queues lists actions full
    → list_any (tells_beyond m) (Executes ∷ actions) ≡ false
queued_beyond m queued =
    elim (queued_touches queued) [ inl empty ↦ rw empty refl | inr one ↦ rw one.1 refl ]

pub queued_silent : {set : Set} {s : Shared} {a b : Activation} {i : Instr} {queues : List
    (List (List ℕ))}
    {lists : List StartState} {actions : List Action} {full : Bool}
    → Queued set s a i b queues lists actions full
    → list_any is_telling (Executes ∷ actions) ≡ false
queued_silent queued =
    elim (queued_touches queued) [ inl empty ↦ rw empty refl | inr one ↦ rw one.1 refl ]

-- every step of a completion routine
pub completion_looks : (m : ℕ) (set : Set) (states : States) (s : Shared) (t : ℕ)
    (below : Option Frame)
    (a : Activation) (o : Outcome) → KeepsRules set states a
    → IsCompleting set a
    → ((r n : ℕ) → is_new (kind_of (state_of states a) r) ≡ true → Reads s a r n → n ≡ m)
    → ((r n : ℕ) → is_view (kind_of (state_of states a) r) ≡ true → Reads s a r n → n ≡ m)
    → Comes set s t below (Routine a) o → Looks states s m a o
completion_looks m set states s t below a o kept is lent own (marks_packet b r n p at reads there) =
    elim (marked_kind (state_of states a).settled (kind_of (state_of states a) r)
    (kept (Mark r) at)) [
      | inl new ↦
          let its : n ≡ m = lent r n (ap is_new new) reads in
          record {
            told = refl;
            alone = (refl, refl);
            silent = let same = eq-eqb n m its in rw same refl;
            by = inr (r, subst (λ (k : ℕ). Reads s a r k) its reads, inl new);
          }
      | inr view ↦
          let its : n ≡ m = own r n (ap is_view view.0) reads in
          record {
            told = refl;
            alone = (refl, refl);
            silent = let same = eq-eqb n m its in rw same refl;
            by = inr (r, subst (λ (k : ℕ). Reads s a r k) its reads, inr view.0);
          }
    ]
completion_looks m set states s t below a o kept is lent own
    (completes_packet b r status n p at reads there) =
    absurd (completes_never (state_of states a) status (sort_of set a.driver a.routine) is
    (second_none _ _ (kept (Complete r status) at)))
completion_looks m set states s t below a o kept is lent own
    (passes_down b r n p lower at reads there under) =
    absurd (forwards_never (state_of states a) (sort_of set a.driver a.routine) set a.driver 0 is
    (second_none _ _ (kept (Pass r) at)))
completion_looks m set states s t below a o kept is lent own
    (calls_down b r f n p lower at reads there under) =
    absurd (forwards_never (state_of states a) (sort_of set a.driver a.routine) set a.driver 1 is
    (first_none _ _ (second_none _ _ (kept (Call r f) at))))
completion_looks m set states s t below a o kept is lent own
    (returns_status b form status at sort there) =
    let no : true ≡ false = sym is ∙ ap is_completion sort in cc
completion_looks m set states s t below a o kept is lent own
    (computes b i c jumped cells at work goes long) =
    record { told = refl; alone = goes_same a i c jumped goes; silent = refl; by = inl refl }
completion_looks m set states s t below a o kept is lent own
    (pages b i c cell cells at work goes long) =
    record { told = refl; alone = goes_same a i c false goes; silent = refl; by = inl refl }
completion_looks m set states s t below a o kept is lent own
    (looks_at b i c jumped r n p at work goes operand reads there jumps) =
    record { told = refl; alone = goes_same a i c jumped goes; silent = refl; by = inl refl }
completion_looks m set states s t below a o kept is lent own (turns_loop b l at there) =
    record { told = refl; alone = turned_same a l; silent = refl; by = inl refl }
completion_looks m set states s t below a o kept is lent own (lets_go b at sort bare) =
    record { told = refl; alone = tt; silent = refl; by = inl refl }
completion_looks m set states s t below a o kept is lent own (lets_walk b n at sort) =
    record { told = refl; alone = tt; silent = refl; by = inl refl }
completion_looks m set states s t below a o kept is lent own
    (works_on_queues b i c queues starts actions full at queued) =
    record {
      told = refl;
      alone = queued_same queued;
      silent = queued_beyond m queued;
      by = inl (queued_silent queued);
    }
completion_looks m set states s t below a o kept is lent own (ends_startio b at sort) =
    record { told = refl; alone = tt; silent = refl; by = inl refl }
completion_looks m set states s t below a o kept is lent own (ends_dpc b at sort) =
    record { told = refl; alone = tt; silent = refl; by = inl refl }
completion_looks m set states s t below a o kept is lent own (ends_cancel b at sort) =
    record { told = refl; alone = tt; silent = refl; by = inl refl }
completion_looks m set states s t below a o kept is lent own (resumes_walk b n p at sort there) =
    record { told = refl; alone = tt; silent = refl; by = inl refl }
completion_looks m set states s t below a o kept is lent own (resumes_gone b n at sort gone) =
    record { told = refl; alone = tt; silent = refl; by = inl refl }
completion_looks m set states s t below a o kept is lent own (resumes_none b at sort bare) =
    record { told = refl; alone = tt; silent = refl; by = inl refl }
completion_looks m set states s t below a o kept is lent own (stops_walk b n at sort) =
    record { told = refl; alone = tt; silent = refl; by = inl refl }
completion_looks m set states s t below a o kept is lent own (stops_none b at sort bare) =
    record { told = refl; alone = tt; silent = refl; by = inl refl }
completion_looks m set states s t below a o kept is lent own
    (exchanges b i c jumped r n p armer at work goes operand reads there how) =
    record { told = refl; alone = goes_same a i c jumped goes; silent = refl; by = inl refl }
completion_looks m set states s t below a o kept is lent own _ =
    record { told = refl; alone = (refl, refl); silent = refl; by = inl refl }

-- a deferred routine goes on, over what it completes or alone, or is gone
abbrev pub IsOver : Activation → List Frame → Type 0
IsOver a [] = ⊤
IsOver a (Routine b ∷ []) = (b.driver ≡ a.driver) × (b.routine ≡ a.routine)
IsOver a (Routine b ∷ Walk n ∷ []) = (b.driver ≡ a.driver) × (b.routine ≡ a.routine)
IsOver a _ = ⊥

pub record Works (a : Activation) (o : Outcome) : Type 0 where
  pub told : o.told ≡ None
  pub over : IsOver a o.frames
  pub silent : list_any is_telling o.actions ≡ false

deferred_never : (sort : Sort) → is_deferred sort ≡ true → forward_sort_fault sort ≡ None → ⊥
deferred_never Dispatch is rule = cc
deferred_never _ is rule = cc

deferred_forwards : (s : Abs) (sort : Sort) (set : Set) (driver locations : ℕ)
    → is_deferred sort ≡ true → forward_fault s sort set driver locations ≡ None → ⊥
deferred_forwards s sort set driver locations is rule =
    deferred_never sort is (first_none _ _ (second_none _ _ rule))

-- every step of one, which has no packet that was handed over, and none on its way up
pub deferred_works : (set : Set) (states : States) (s : Shared) (t : ℕ) (below : Option Frame)
    (a : Activation) (o : Outcome) → KeepsRules set states a
    → IsDeferred set a → HasNone is_new (state_of states a)
    → ((r : ℕ) → is_view (kind_of (state_of states a) r) ≡ true → ⊥)
    → Comes set s t below (Routine a) o → Works a o
deferred_works set states s t below a o kept is none unseen (marks_packet b r n p at reads there) =
    elim (marked_kind (state_of states a).settled (kind_of (state_of states a) r)
    (kept (Mark r) at)) [
      | inl new ↦ absurd (never_new (state_of states a) r none new)
      | inr view ↦ absurd (unseen r (ap is_view view.0))
    ]
deferred_works set states s t below a o kept is none unseen
    (passes_down b r n p lower at reads there under) =
    absurd (deferred_forwards (state_of states a) (sort_of set a.driver a.routine) set a.driver 0 is
    (second_none _ _ (kept (Pass r) at)))
deferred_works set states s t below a o kept is none unseen
    (calls_down b r f n p lower at reads there under) =
    absurd (deferred_forwards (state_of states a) (sort_of set a.driver a.routine) set a.driver 1 is
    (first_none _ _ (second_none _ _ (kept (Call r f) at))))
deferred_works set states s t below a o kept is none unseen
    (returns_status b form status at sort there) =
    let no : true ≡ false = sym is ∙ ap is_deferred sort in cc
deferred_works set states s t below a o kept is none unseen
    (computes b i c jumped cells at work goes long) =
    record { told = refl; over = goes_same a i c jumped goes; silent = refl }
deferred_works set states s t below a o kept is none unseen
    (pages b i c cell cells at work goes long) =
    record { told = refl; over = goes_same a i c false goes; silent = refl }
deferred_works set states s t below a o kept is none unseen
    (looks_at b i c jumped r n p at work goes operand reads there jumps) =
    record { told = refl; over = goes_same a i c jumped goes; silent = refl }
deferred_works set states s t below a o kept is none unseen (turns_loop b l at there) =
    record { told = refl; over = turned_same a l; silent = refl }
deferred_works set states s t below a o kept is none unseen
    (works_on_queues b i c queues starts actions full at queued) =
    record {
      told = refl;
      over = queued_same queued;
      silent = queued_silent queued;
    }
deferred_works set states s t below a o kept is none unseen (lets_go b at sort bare) =
    record { told = refl; over = tt; silent = refl }
deferred_works set states s t below a o kept is none unseen (lets_walk b n at sort) =
    record { told = refl; over = tt; silent = refl }
deferred_works set states s t below a o kept is none unseen (ends_startio b at sort) =
    record { told = refl; over = tt; silent = refl }
deferred_works set states s t below a o kept is none unseen (ends_dpc b at sort) =
    record { told = refl; over = tt; silent = refl }
deferred_works set states s t below a o kept is none unseen (ends_cancel b at sort) =
    record { told = refl; over = tt; silent = refl }
deferred_works set states s t below a o kept is none unseen (resumes_walk b n p at sort there) =
    record { told = refl; over = tt; silent = refl }
deferred_works set states s t below a o kept is none unseen (resumes_gone b n at sort gone) =
    record { told = refl; over = tt; silent = refl }
deferred_works set states s t below a o kept is none unseen (resumes_none b at sort bare) =
    record { told = refl; over = tt; silent = refl }
deferred_works set states s t below a o kept is none unseen (stops_walk b n at sort) =
    record { told = refl; over = tt; silent = refl }
deferred_works set states s t below a o kept is none unseen (stops_none b at sort bare) =
    record { told = refl; over = tt; silent = refl }
deferred_works set states s t below a o kept is none unseen
    (exchanges b i c jumped r n p armer at work goes operand reads there how) =
    record { told = refl; over = goes_same a i c jumped goes; silent = refl }
deferred_works set states s t below a o kept is none unseen _ =
    record { told = refl; over = (refl, refl); silent = refl }

-- frames that the I/O manager's frame leaves: none, or one of its own, with a completion routine on
-- it or not
abbrev pub is_managing : List Frame → Bool
is_managing [] = true
is_managing (Walk n ∷ []) = true
is_managing (Walk n ∷ Routine b ∷ []) = true
is_managing _ = false

pub record Manages (n : ℕ) (o : Outcome) : Type 0 where
  pub told : o.told ≡ None
  pub managing : is_managing o.frames ≡ true
  pub silent : list_any (tells_beyond n) o.actions ≡ false

-- every step of the I/O manager's frame
pub walk_manages : (set : Set) (s : Shared) (t : ℕ) (below : Option Frame) (n : ℕ) (o : Outcome)
    → Comes set s t below (Walk n) o → Manages n o
walk_manages set s t below n o (walks_gone m there) =
    record { told = refl; managing = refl; silent = refl }
walk_manages set s t below n o _ =
    let same = eq-eqb n n refl in record { told = refl; managing = refl; silent = rw same refl }

-- frames that one of IoCancelIrp leaves: none, itself, or a cancel routine in its place
abbrev pub IsCancelling : Set → List Frame → Type 0
IsCancelling set [] = ⊤
IsCancelling set (CancelFrame c ∷ []) = ⊤
IsCancelling set (Routine b ∷ []) = IsDeferred set b
IsCancelling set _ = ⊥

pub record Cancelled (set : Set) (o : Outcome) : Type 0 where
  pub told : o.told ≡ None
  pub over : IsCancelling set o.frames
  pub silent : list_any is_telling o.actions ≡ false

-- every step of IoCancelIrp
module _ (set : Set) (states : States) (s : Shared) (t n : ℕ) where
  cancel_cancels : (step : CancelStep) (o : Outcome)
      → OnTop set states s (CancelFrame (record { packet = n; next = step }))
      → Cancels set s t n step o → Cancelled set o
  cancel_cancels step o top (calls_cancel p armer routine there is named) =
      let leads : ArmerLeads set (Some armer) =
      subst (ArmerLeads set) is (word_leads set s top.fits n p there) in
      let b : Activation =
      entered (routine_of_device (slice_get set.devices armer.device)) routine armer.device (Ref n)
      in
      let begins : Begins set states s.issued b Cancel n =
      begins_cancelled set states top.good s.issued n top.stands armer routine leads named in
      record { told = refl; over = deferred_sort set b Cancel begins.of_sort refl; silent = refl }
  cancel_cancels step o top _ = record { told = refl; over = tt; silent = refl }

pub frame_cancels : (set : Set) (states : States) (s : Shared) (t : ℕ) (below : Option Frame)
    (c : Canceller) (o : Outcome) → OnTop set states s (CancelFrame c)
    → Comes set s t below (CancelFrame c) o → Cancelled set o
frame_cancels set states s t below c o top (cancels n step made moves) =
    cancel_cancels set states s t n step made top moves
