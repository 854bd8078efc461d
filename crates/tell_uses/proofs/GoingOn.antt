-- A ledger tells a run with steps added that change nothing but the activation on a thread's top.
use Rattle.std.proofs.Common.{◌≡◌, ◌∙◌, ◌<◌, ℕ, suc, ◌+◌, List, [], ◌∷◌, ◌++◌, Option, Some, arith, refl, sym, ap, subst, append_assoc, replicate, length}
use Rattle.std.specs.Prelude.{slice_get, slice_set}
use Rattle.std.proofs.lemmas.List.{append-nil, get_or-set_same, length-set, replicate_more}
use Rattle.std.proofs.lemmas.Option.{slice_get_within, slice_get-get_or}
use Rattle.checked.specs.GoingOn.{GoesOn, StepsAlone, more, none, with_top}
use Rattle.model.specs.declared.event.Event.{Event}
use Rattle.model.specs.declared.event.Event.TheVariants.{Step}
use Rattle.model.specs.declared.event.Reply.TheVariants.{Stepped}
use Rattle.model.specs.declared.world.Activation.{Activation}
use Rattle.model.specs.declared.world.Frame.{Frame}
use Rattle.model.specs.declared.world.Frame.TheVariants.{Routine}
use Rattle.model.specs.declared.world.Irql.{Irql}
use Rattle.model.specs.declared.world.Thread.{Thread}
use Rattle.model.specs.Action.{Action, Executes}
use Rattle.model.specs.Effect.{goes_on, top_of}
use Rattle.model.specs.Events.{Change, effect, root_over, settled, with_thread}
use Rattle.model.specs.Machine.{AppliesWhole, Machine, ShowsWhole}
use Rattle.model.specs.Run.{Answered, Run, begun, frames_of, frames_on, goes, run, step}
use Rattle.model.specs.Set.{Set}
use Rattle.model.specs.Trace.{Activated, Managing, Tag}
use Rattle.model.specs.World.{World}
use Rattle.laws_runs.proofs.History.Waits.{run_more}
use Rattle.laws_runs.proofs.Lists.{before_last, last_of}
use Rattle.laws_runs.proofs.Runs.Events.{Answers, answers, goes_on_with, past_with, refuses_over, refuses_stopped, stops_for, stops_wrong}
use Rattle.tell_uses.proofs.Knowing.{uses_in}
use Rattle.tell_uses.proofs.Noted.{Tagged, row_fits, tagged_run, tells_goes}
use Rattle.tell_uses.proofs.Rows.{Fits, TagFits}
use Rattle.tell_uses.specs.Ledger.{LedgerState, Tells, row_settled}

-- what is written at a place is found there
pub found_set : (threads : List Thread) (t : ℕ) (x y : Thread)
    → slice_get threads t ≡ Some x → slice_get (slice_set threads t y) t ≡ Some y
found_set threads t x y found =
    let within : t < length threads = slice_get_within threads t x found in
    let still : t < length (slice_set threads t y) =
    rw (length-set threads t y) within in
    slice_get-get_or (slice_set threads t y) t y still
    ∙ ap (λ (z : Thread). Some z) (get_or-set_same threads t y y within)

-- the level of a thread with a frame is its own
pub root_more : (root : Irql) (below : List Frame) (f : Frame) (frames : List Frame)
    → root_over root (below ++ f ∷ frames) ≡ root
root_more root [] f frames = refl
root_more root (b ∷ below) f frames = refl

-- another activation on top is a routine's frame as well
top_fits : (a b : Activation) (tag : Tag) → TagFits (Routine a) tag → TagFits (Routine b) tag
top_fits a b Managing h = absurd h
top_fits a b (Activated g driver routine serving) h = tt

pub all_fit : (below : List Frame) (a b : Activation) (row : List Tag)
    → Fits (below ++ Routine a ∷ []) row → Fits (below ++ Routine b ∷ []) row
all_fit [] a b [] h = absurd h
all_fit [] a b (tag ∷ tags) h = (top_fits a b tag h.0, h.1)
all_fit (f ∷ below) a b [] h = absurd h
all_fit (f ∷ below) a b (tag ∷ tags) h = (h.0, all_fit below a b tags h.1)

module _ (set : Set) (r : Run) (t : ℕ) (v : World) (alone : StepsAlone set r.world t v) where
  abbrev change : Change
  change = effect set r.world (Step t)

  change_is : change
      ≡ settled set r.world t alone.thread alone.below (goes_on r.world.shared alone.now [])
  change_is =
      rw (
        alone.there,
        alone.stack,
        last_of alone.below (Routine alone.before),
        before_last alone.below (Routine alone.before),
        alone.alone.goes r.world.shared t (top_of alone.below),
      ) refl

  world_is : change.world ≡ v
  world_is =
      ap (λ (c : Change). c.world) change_is
      ∙ ap (λ (root : Irql). with_thread r.world t r.world.shared
      (record { root = root; frames = record { items = alone.below ++ Routine alone.now ∷ [] } }))
      (root_more alone.thread.root alone.below (Routine alone.now) [])
      ∙ sym alone.left

  acts : change.actions ≡ Executes ∷ []
  acts = ap (λ (c : Change). c.actions) change_is

  frames_before : frames_on r.world t ≡ alone.below ++ Routine alone.before ∷ []
  frames_before = ap (λ (x : Option Thread). frames_of x) alone.there ∙ alone.stack

  frames_now : frames_on v t ≡ alone.below ++ Routine alone.now ∷ []
  frames_now =
      ap (λ (w : World). frames_on w t) alone.left
      ∙ ap (λ (x : Option Thread). frames_of x)
      (found_set r.world.threads t alone.thread (with_top alone.thread alone.below alone.now)
      alone.there)

  module _ (tagged : Tagged r) (l : LedgerState) (tells : Tells r l) where
    fits_now : (row : List Tag) → slice_get r.tags t ≡ Some row → Fits (frames_on v t) row
    fits_now row there =
        subst (λ (frames : List Frame). Fits frames row) (sym frames_now)
        (all_fit alone.below alone.before alone.now row
        (subst (λ (frames : List Frame). Fits frames row) frames_before
        (tagged.fits t row there)))

    tells_going : Tells (goes set r t (past_with r t change) change).run l
    tells_going =
        tells_goes set r t tagged l l tells change []
        (ap (λ (actions : List Action). uses_in actions) acts) refl
        (sym (ap (λ (w : World). row_settled set w l.uses t l.rows (slice_get l.rows t)) world_is
        ∙ row_fits set r t tagged l l tells v fits_now (slice_get r.tags t) refl))

    tells_stepped : (a : Answered) → Answers set r t change a → a.reply ≡ Stepped → Tells a.run l
    tells_stepped a (refuses_stopped on) is = cc
    tells_stepped a (refuses_over on quiet over) is = cc
    tells_stepped a (goes_on_with on quiet within) is = tells_going
    tells_stepped a (stops_for bug on fault) is = cc
    tells_stepped a (stops_wrong place on wrong) is = cc

-- one of them
tells_one : (n o : Machine) (t : ℕ) (l : LedgerState) (threads : ℕ) (events : List Event)
    → ShowsWhole n threads events → AppliesWhole n (Step t) o Stepped
    → StepsAlone n.set n.world t o.world → Tells (run n.set threads events) l
    → Tells (run n.set threads (events ++ Step t ∷ [])) l
tells_one n o t l threads events shows applies alone tells =
    let r : Run = run n.set threads events in
    let here : StepsAlone n.set r.world t o.world =
    subst (λ (w : World). StepsAlone n.set w t o.world) shows.world alone in
    subst (λ (x : Run). Tells x l) (sym (run_more n.set (begun n.set threads) events (Step t)))
    (tells_stepped n.set r t o.world here (tagged_run n.set threads events) l tells
    (step n.set r (Step t)) (answers n.set r t (Step t) refl)
    (sym (applies.replies threads events shows)))

-- so many of them
pub record Along (set : Set) (n : Machine) (threads : ℕ) (events : List Event) (l : LedgerState)
    : Type 0 where
  pub same : n.set ≡ set
  pub shows : ShowsWhole n threads events
  pub tells : Tells (run set threads events) l

step_added : (t k : ℕ) (events : List Event)
    → (events ++ replicate k (Step t)) ++ Step t ∷ [] ≡ events ++ replicate (suc k) (Step t)
step_added t k events =
    let next : k + 1 ≡ suc k = omega arith in
    append_assoc events (replicate k (Step t)) (Step t ∷ [])
    ∙ ap (λ (es : List Event). events ++ es) (replicate_more k (Step t))
    ∙ ap (λ (j : ℕ). events ++ replicate j (Step t)) next

pub tells_along : (t : ℕ) (m : Machine) (k : ℕ) (n : Machine) (l : LedgerState) (threads : ℕ)
    (events : List Event)
    → GoesOn t m k n → ShowsWhole m threads events → Tells (run m.set threads events) l
    → Along m.set n threads (events ++ replicate k (Step t)) l
tells_along t m j n l threads events none shows tells =
    subst (λ (es : List Event). Along m.set m threads es l) (sym (append-nil events))
    (record { same = refl; shows = shows; tells = tells })
tells_along t m j p l threads events (more k n o before applies alone) shows tells =
    let past : List Event = events ++ replicate k (Step t) in
    let so_far : Along m.set n threads past l =
    tells_along t m k n l threads events before shows tells in
    let told : Tells (run n.set threads past) l =
    subst (λ (s : Set). Tells (run s threads past) l) (sym so_far.same) so_far.tells in
    subst (λ (es : List Event). Along m.set o threads es l) (step_added t k events)
    (record {
      same = applies.set ∙ so_far.same;
      shows = applies.shows threads past so_far.shows;
      tells =
          subst (λ (s : Set). Tells (run s threads (past ++ Step t ∷ [])) l) so_far.same
          (tells_one n o t l threads past so_far.shows applies alone told);
    })
