-- Where a thread's lowest frame began: each dispatch routine's frame is on a thread that began at
-- PASSIVE_LEVEL, since only dispatch routines send packets down.
use Rattle.laws_runs.proofs.Prelude.{refl, subst, sym, ◌-◌, ◌∙◌, List, None, Option, Some, [], false, slice_get, ℕ, ⊤, ◌∷◌, ◌≡◌, Outcome, answered_in, completes_with, operand_of, routine_of_device, turned, root_over, Set, instruction_at, Shared, entered, Call, Pass, Cancel, Dispatch, Hold, Propagate, Status, Activation, Armer, CancelStep, Frame, CancelFrame, Routine, Walk, Irql, Passive, Ref}
use Rattle.laws_runs.proofs.States.Fits.{ArmerLeads, word_leads}
use Rattle.laws_runs.proofs.Lists.{Each}
use Rattle.laws_runs.proofs.States.Entering.{IsOfSort, Begins, begins_back, begins_lent, begins_cancelled}
use Rattle.laws_runs.proofs.States.Lacking.{down}
use Rattle.laws_runs.proofs.States.OnTop.{OnTop, runs}
use Rattle.laws_runs.proofs.States.Queueing.{MovedOn, queue_moves}
use Rattle.laws_runs.specs.ArrivingStates.{States}
use Rattle.laws_runs.proofs.States.Told.{told_frame, told_last}
use Rattle.laws_runs.proofs.Steps.Comes.{Comes, computes, turns_loop, pages, looks_at, completes_packet, passes_down, calls_down, returns_status, lets_go, lets_walk, ends_dpc, walks_gone, walks_to, walks_up, carries_up, tops_out, works_on_queues, ends_startio, exchanges, resumes_walk, resumes_gone, resumes_none, stops_walk, stops_none, ends_cancel, lends_to, cancels, Cancels, takes_cancel, retakes_cancel, awaits_cancel, sets_flag, calls_cancel}
use Rattle.laws_runs.proofs.Steps.Onward.{SameRoutine, goes_same, turned_same}

module _ (set : Set) (root : Irql) where
  abbrev pub Low : Frame → Type 0
  Low (Routine a) = IsOfSort set a Dispatch → root ≡ Passive
  Low (Walk n) = ⊤
  Low (CancelFrame c) = ⊤

  goes_low : (a b : Activation) → SameRoutine a b → Low (Routine a) → Low (Routine b)
  goes_low a b same low = λ is. low (rw (same.0, same.1) at is)

  -- a frame that is told something
  answered_low : (a : Activation) (status : Status) (r : Option ℕ) → Low (Routine a)
      → Low (Routine (answered_in a status r))
  answered_low a status None low = low
  answered_low a status (Some r) low = low

  told_low : (told : Option Status) (f : Frame) → Low f → Low (told_frame set told f)
  told_low None (Routine a) low = low
  told_low None (Walk n) low = low
  told_low None (CancelFrame c) low = low
  told_low (Some status) (Walk n) low = low
  told_low (Some status) (CancelFrame c) low = low
  told_low (Some status) (Routine a) low =
      answered_low a status (operand_of (instruction_at set a.driver a.routine (a.position - 1)))
      low

  pub last_low : (told : Option Status) (below : List Frame) → Each Low below
      → Each Low (told_last set told below)
  last_low told [] low = tt
  last_low told (f ∷ []) low = (told_low told f low.0, tt)
  last_low told (f ∷ g ∷ below) low = (low.0, last_low told (g ∷ below) low.1)

  -- what a step of IoCancelIrp leaves: its frame, a cancel routine's or none
  cancel_low : (states : States) (s : Shared) (t n : ℕ) (step : CancelStep) (o : Outcome)
      → OnTop set states s (CancelFrame (record { packet = n; next = step }))
      → Cancels set s t n step o → Each Low o.frames
  cancel_low states s t n step o h (takes_cancel free) = (tt, tt)
  cancel_low states s t n step o h (retakes_cancel its) = (tt, tt)
  cancel_low states s t n step o h (awaits_cancel owner owned apart) = (tt, tt)
  cancel_low states s t n step o h (sets_flag p there) = (tt, tt)
  cancel_low states s t n step o h (calls_cancel p armer routine there word named) =
      let leads : ArmerLeads set (Some armer) =
      subst (λ (o : Option Armer). ArmerLeads set o) word (word_leads set s h.fits n p there) in
      let begins : Begins set states s.issued
      (entered (routine_of_device (slice_get set.devices armer.device)) routine armer.device
      (Ref n))
      Cancel n = begins_cancelled set states h.good s.issued n h.stands armer routine leads named in
      ((λ is. (let no : Cancel ≡ Dispatch = sym begins.of_sort ∙ is in cc)), tt)
  cancel_low states s t n step o h _ = tt

  -- what a step of a frame leaves
  module _ (states : States) (s : Shared) (t : ℕ) where
    pub step_low : (under : Option Frame) (f : Frame) (o : Outcome) → OnTop set states s f → Low f
        → Comes set s t under f o
        → Each Low o.frames
    step_low under f o h low (computes a i b jumped cells at work goes long) =
        (goes_low a b (goes_same a i b jumped goes) low, tt)
    step_low under f o h low (turns_loop a l at inner) =
        (goes_low a (turned a l) (turned_same a l) low, tt)
    step_low under f o h low (pages a i b cell cells at work goes long) =
        (goes_low a b (goes_same a i b false goes) low, tt)
    step_low under f o h low (looks_at a i b jumped r n p at work goes operand reads there jumps) =
        (goes_low a b (goes_same a i b jumped goes) low, tt)
    step_low under f o h low (exchanges a i b jumped r n p armer at work goes operand reads there
        how) =
        (goes_low a b (goes_same a i b jumped goes) low, tt)
    step_low under f o h low (completes_packet a r status n p at reads there) = (low, (tt, tt))
    step_low under f o h low (passes_down a r n p lower at reads there below) = (
      low,
      (
        (λ is. low (down set states s a (Pass r) r (runs set states s a (Pass r) h at) refl
            refl).dispatch),
        tt,
      ),
    )
    step_low under f o h low (calls_down a r c n p lower at reads there below) = (
      low,
      (
        (λ is. low (down set states s a (Call r c) r (runs set states s a (Call r c) h at) refl
            refl).dispatch),
        tt,
      ),
    )
    step_low under f o h low (returns_status a form status at sort is) = tt
    step_low under f o h low (lets_go a at sort free) = tt
    step_low under f o h low (lets_walk a n at sort) = tt
    step_low under f o h low (resumes_walk a n p at sort there) = tt
    step_low under f o h low (resumes_gone a n at sort gone) = tt
    step_low under f o h low (resumes_none a at sort free) = tt
    step_low under f o h low (stops_walk a n at above) = tt
    step_low under f o h low (stops_none a at above free) = tt
    step_low under f o h low (ends_cancel a at sort) = tt
    step_low under f o h low (lends_to n p c there set_there sort) =
        let begins : Begins set states s.issued (completes_with set c n) Hold n =
        begins_lent set states s h.good h.fits n p c h.stands there set_there sort in
        (tt, ((λ is. (let no : Hold ≡ Dispatch = sym begins.of_sort ∙ is in cc)), tt))
    step_low under f o h low (cancels n step made moves) =
        cancel_low states s t n step o h moves
    step_low under f o h low (works_on_queues a i b queues starts actions full at queued) =
        let on : MovedOn set states s a i b queues starts =
        queue_moves set states s a i (runs set states s a i h at) queued in
        (rw (on.moved.driver, on.moved.routine) low, tt)
    step_low under f o h low (ends_startio a at sort) = tt
    step_low under f o h low (ends_dpc a at sort) = tt
    step_low under f o h low (walks_gone n gone) = tt
    step_low under f o h low (walks_to n p c there set_there lends) =
        let begins : Begins set states s.issued (completes_with set c n) Propagate n =
        begins_back set states s h.good h.fits n p c h.stands there set_there lends in
        (tt, ((λ is. (let no : Propagate ≡ Dispatch = sym begins.of_sort ∙ is in cc)), tt))
    step_low under f o h low (walks_up n p there none more unmarked) = (tt, tt)
    step_low under f o h low (carries_up n p there none more marked) = (tt, tt)
    step_low under f o h low (tops_out n p there none last) = tt
    step_low under f o h low _ = (low, tt)

-- where no frame is left the thread is at PASSIVE_LEVEL
pub low_over : (set : Set) (root : Irql) (frames : List Frame) → Each (Low set root) frames
    → Each (Low set (root_over root frames)) frames
low_over set root [] low = tt
low_over set root (f ∷ frames) low = low
