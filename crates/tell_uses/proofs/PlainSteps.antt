-- Plain steps: a ledger that tells a run tells it with one added that steps, and one that doesn't
-- leaves the world as it was.
use Rattle.std.proofs.Common.{◌≡◌, ◌≢◌, ◌∙◌, ℕ, List, [], ◌∷◌, ◌++◌, Bool, true, false, Option, None, Some, refl, sym, ap, subst}
use Rattle.std.specs.Prelude.{slice_get, slice_set}
use Rattle.model.specs.declared.event.Event.{Event}
use Rattle.model.specs.declared.event.Event.TheVariants.{Step}
use Rattle.model.specs.declared.event.Reply.{Reply}
use Rattle.model.specs.declared.event.Reply.TheVariants.{Bug as BugCheckReply, Finished, Idle, Refused, Started, Stepped, Topped, Waited, Wrong}
use Rattle.model.specs.declared.instr.Instr.{Instr}
use Rattle.model.specs.declared.instr.Instr.TheVariants.{Call, Mark, Ret}
use Rattle.model.specs.declared.world.Activation.{Activation}
use Rattle.model.specs.declared.world.Frame.{Frame}
use Rattle.model.specs.declared.world.Frame.TheVariants.{Routine}
use Rattle.model.specs.declared.world.Thread.{Thread}
use Rattle.model.specs.Action.{Action}
use Rattle.model.specs.Effect.{Outcome, goes_on, leaves, top_of}
use Rattle.model.specs.Events.{Change, effect, finished_or, settled, standing, with_stack, with_thread}
use Rattle.model.specs.Run.{Answered, Run, begun, frames_of, frames_on, goes, run, step}
use Rattle.model.specs.Set.{Set, instruction_at}
use Rattle.model.specs.Trace.{Tag}
use Rattle.model.specs.World.{Shared, World}
use Rattle.laws_runs.proofs.History.Waits.{run_more}
use Rattle.laws_runs.proofs.Lists.{last_of}
use Rattle.laws_runs.proofs.Runs.Events.{Answers, Happens, StepsFrame, answers, begins, goes_on_with, happens_step, nothing, past_with, refuses_over, refuses_stopped, steps, stops_for, stops_wrong}
use Rattle.laws_runs.proofs.Steps.Comes.{Comes, awaits_lock, calls_down, cancels, carries_up, completes_packet, ends_cancel, ends_dpc, ends_startio, errs, lends_to, lets_go, lets_walk, passes_down, resumes_gone, resumes_none, resumes_walk, returns_status, stops_none, stops_walk, tops_out, walks_gone, walks_to, walks_up}
use Rattle.tell_uses.specs.declared.acts.UseStep.TheVariants.{Nothing}
use Rattle.tell_uses.specs.Acts.{actions_of, frame_uses, instruction_uses, use_step}
use Rattle.tell_uses.specs.Ledger.{LedgerState, Tells, row_settled}
use Rattle.tell_uses.specs.Plain.{PlainStepsKeepLedgers, PlainStepsStepOrStay, is_plain, is_plain_at, is_plain_on}
use Rattle.tell_uses.proofs.Doing.{acts_step}
use Rattle.tell_uses.proofs.GoingOn.{all_fit, found_set, root_more}
use Rattle.tell_uses.proofs.Knowing.{uses_in}
use Rattle.tell_uses.proofs.Noted.{Tagged, row_fits, tagged_run, tells_goes}
use Rattle.tell_uses.proofs.Rows.{Fits, set_back}

-- one does nothing to uses
module _ (set : Set) (s : Shared) where
  instruction_nothing : (a : Activation) (o : Option Instr) → is_plain_at o ≡ true
      → instruction_uses set s a o ≡ Nothing
  instruction_nothing a (Some (Mark r)) plain = cc
  instruction_nothing a (Some (Call r f)) plain = cc
  instruction_nothing a (Some (Ret form)) plain = cc
  instruction_nothing a _ plain = refl

  frame_nothing : (o : Option Frame) → is_plain_on set o ≡ true → frame_uses set s o ≡ Nothing
  frame_nothing (Some (Routine a)) plain =
      instruction_nothing a (instruction_at set a.driver a.routine a.position) plain
  frame_nothing _ plain = cc

pub nothing_used : (set : Set) (w : World) (e : Event) → is_plain set w e ≡ true
    → use_step set w e ≡ Nothing
nothing_used set w (Step t) plain = frame_nothing set w.shared (top_of (frames_on w t)) plain
nothing_used set w _ plain = cc

-- what one comes to: the routine goes on in its frame, or nothing is changed
data Plainly (s : Shared) : Frame → Outcome → Type 0 where
  goes_plainly : (a : Activation) (after : Shared) (b : Activation) (actions : List Action)
      (full : Bool)
      → Plainly s (Routine a) (record (goes_on after b actions) { full = full })
  rests_plainly : (f : Frame) (actions : List Action) (reply : Reply)
      → Plainly s f (record (leaves s (f ∷ []) actions) { reply = reply })

module _ (set : Set) (s : Shared) (t : ℕ) where
  another : (a : Activation) (i : Instr) → instruction_at set a.driver a.routine a.position ≡ Some i
      → is_plain_at (Some i) ≡ false → is_plain_on set (Some (Routine a)) ≡ true → ⊥
  another a i at other plain =
      let no : is_plain_at (Some i) ≡ true = rw at at plain in
      let never : false ≡ true = sym other ∙ no in cc

  plainly : (under : Option Frame) (f : Frame) (o : Outcome) → Comes set s t under f o
      → is_plain_on set (Some f) ≡ true → Plainly s f o
  plainly under f o (errs a lacks) plain = rests_plainly _ _ _
  plainly under f o (awaits_lock a i lock owner at takes its other) plain = rests_plainly _ _ _
  plainly under f o (completes_packet a r status n p at reads live) plain =
      absurd (another a _ at refl plain)
  plainly under f o (passes_down a r n p lower at reads live has) plain =
      absurd (another a _ at refl plain)
  plainly under f o (calls_down a r routine n p lower at reads live has) plain =
      absurd (another a _ at refl plain)
  plainly under f o (returns_status a form status at sort is) plain =
      absurd (another a _ at refl plain)
  plainly under f o (lets_go a at sort other) plain = absurd (another a _ at refl plain)
  plainly under f o (lets_walk a n at sort) plain = absurd (another a _ at refl plain)
  plainly under f o (resumes_walk a n p at sort live) plain = absurd (another a _ at refl plain)
  plainly under f o (resumes_gone a n at sort gone) plain = absurd (another a _ at refl plain)
  plainly under f o (resumes_none a at sort other) plain = absurd (another a _ at refl plain)
  plainly under f o (stops_walk a n at sort) plain = absurd (another a _ at refl plain)
  plainly under f o (stops_none a at sort other) plain = absurd (another a _ at refl plain)
  plainly under f o (ends_startio a at sort) plain = absurd (another a _ at refl plain)
  plainly under f o (ends_dpc a at sort) plain = absurd (another a _ at refl plain)
  plainly under f o (ends_cancel a at sort) plain = absurd (another a _ at refl plain)
  plainly under f o (walks_gone n gone) plain = cc
  plainly under f o (walks_to n p c live set_there other) plain = cc
  plainly under f o (lends_to n p c live set_there sort) plain = cc
  plainly under f o (walks_up n p live none deep unmarked) plain = cc
  plainly under f o (carries_up n p live none deep marked) plain = cc
  plainly under f o (tops_out n p live none last) plain = cc
  plainly under f o (cancels n stage made moves) plain = cc
  plainly under f o _ plain = goes_plainly _ _ _ _ _

-- a step that leaves a frame finishes no thread
finishes_none : (below : List Frame) (f : Frame) (reply : Reply)
    → finished_or (below ++ f ∷ []) reply ≡ reply
finishes_none [] f reply = refl
finishes_none (g ∷ below) f reply = refl

module _ (set : Set) (w : World) (t : ℕ) where
  frames_here : (h : StepsFrame set w t) → frames_on w t ≡ h.below ++ h.frame ∷ []
  frames_here h = ap (λ (x : Option Thread). frames_of x) h.found ∙ h.frames

  plain_here : (h : StepsFrame set w t) → is_plain_on set (top_of (frames_on w t)) ≡ true
      → is_plain_on set (Some h.frame) ≡ true
  plain_here h plain =
      subst (λ (o : Option Frame). is_plain_on set o ≡ true)
      (ap (λ (frames : List Frame). top_of frames) (frames_here h) ∙ last_of h.below h.frame) plain

  frames_after : (h : StepsFrame set w t)
      → frames_on (settled set w t h.thread h.below h.outcome).world t
      ≡ standing set h.below h.outcome
  frames_after h =
      ap (λ (x : Option Thread). frames_of x)
      (found_set w.threads t h.thread
      (with_stack h.thread (standing set h.below h.outcome)) h.found)

  -- tags that fit the frames before fit those after
  outcome_fits : (below : List Frame) (f : Frame) (o : Outcome) → Plainly w.shared f o
      → (row : List Tag) → Fits (below ++ f ∷ []) row → Fits (standing set below o) row
  outcome_fits below f o (goes_plainly a after b actions full) row fits =
      all_fit below a b row fits
  outcome_fits below f o (rests_plainly g actions reply) row fits = fits

  still_fits : (c : Change) → Happens set w t c → is_plain_on set (top_of (frames_on w t)) ≡ true
      → (row : List Tag) → Fits (frames_on w t) row → Fits (frames_on c.world t) row
  still_fits c (nothing reply right) plain row fits = fits
  still_fits c (steps h) plain row fits =
      subst (λ (frames : List Frame). Fits frames row) (sym (frames_after h))
      (outcome_fits h.below h.frame h.outcome
      (plainly set w.shared t (top_of h.below) h.frame h.outcome h.comes (plain_here h plain)) row
      (subst (λ (frames : List Frame). Fits frames row) (frames_here h) fits))
  still_fits c (begins i root beside) plain row fits =
      let no : is_plain_on set None ≡ true = rw (i.found, i.idle) at plain in cc

  -- a thread with the frames that it has, written back to its place
  world_back : (thread : Thread) (below : List Frame) (f : Frame)
      → slice_get w.threads t ≡ Some thread → thread.frames.items ≡ below ++ f ∷ []
      → with_thread w t w.shared (with_stack thread (below ++ f ∷ [])) ≡ w
  world_back thread below f found is =
      let same : with_stack thread (below ++ f ∷ []) ≡ thread =
      rw (root_more thread.root below f [], sym is) refl in
      ap (λ (x : Thread). with_thread w t w.shared x) same
      ∙ ap (λ (threads : List Thread). record w { threads = threads })
      (set_back w.threads t thread found)

  outcome_same : (thread : Thread) (below : List Frame) (f : Frame) (o : Outcome)
      → slice_get w.threads t ≡ Some thread → thread.frames.items ≡ below ++ f ∷ []
      → Plainly w.shared f o → finished_or (standing set below o) o.reply ≢ Stepped
      → (settled set w t thread below o).world ≡ w
  outcome_same thread below f o found is (goes_plainly a after b actions full) other =
      absurd (other (finishes_none below (Routine b) Stepped))
  outcome_same thread below f o found is (rests_plainly g actions reply) other =
      world_back thread below g found is

  still_same : (c : Change) → Happens set w t c → is_plain_on set (top_of (frames_on w t)) ≡ true
      → c.reply ≢ Stepped → c.world ≡ w
  still_same c (nothing reply right) plain other = refl
  still_same c (steps h) plain other =
      outcome_same h.thread h.below h.frame h.outcome h.found h.frames
      (plainly set w.shared t (top_of h.below) h.frame h.outcome h.comes (plain_here h plain)) other
  still_same c (begins i root beside) plain other =
      let no : is_plain_on set None ≡ true = rw (i.found, i.idle) at plain in cc

module _ (set : Set) (r : Run) (t : ℕ)
    (plain : is_plain_on set (top_of (frames_on r.world t)) ≡ true) where
  abbrev change : Change
  change = effect set r.world (Step t)

  happens : Happens set r.world t change
  happens = happens_step set r.world t (slice_get r.world.threads t) refl

  -- the world is as it was where it doesn't step
  answered_same : (a : Answered) → Answers set r t change a → a.reply ≢ Stepped
      → a.run.world ≡ r.world
  answered_same a (goes_on_with on quiet within) other =
      still_same set r.world t change happens plain other
  answered_same a _ other = refl

  -- and the ledger tells the run where it does
  module _ (tagged : Tagged r) (l : LedgerState) (tells : Tells r l) where
    quiet_here : uses_in change.actions ≡ []
    quiet_here =
        acts_step set r.world t (slice_get r.world.threads t)
        ∙ ap (λ u. actions_of u)
        (frame_nothing set r.world.shared (top_of (frames_on r.world t)) plain)

    tells_going : Tells (goes set r t (past_with r t change) change).run l
    tells_going =
        tells_goes set r t tagged l l tells change [] quiet_here refl
        (sym (row_fits set r t tagged l l tells change.world
        (λ row there. still_fits set r.world t change happens plain row (tagged.fits t row there))
        (slice_get r.tags t) refl))

    tells_stepped : (a : Answered) → Answers set r t change a → a.reply ≡ Stepped → Tells a.run l
    tells_stepped a (refuses_stopped on) is = cc
    tells_stepped a (refuses_over on quiet over) is = cc
    tells_stepped a (goes_on_with on quiet within) is = tells_going
    tells_stepped a (stops_for bug on fault) is = cc
    tells_stepped a (stops_wrong place on wrong) is = cc

pub plain_keeps : PlainStepsKeepLedgers
plain_keeps set threads events (Step t) l plain is tells =
    let r : Run = run set threads events in
    subst (λ (x : Run). Tells x l) (sym (run_more set (begun set threads) events (Step t)))
    (tells_stepped set r t plain (tagged_run set threads events) l tells (step set r (Step t))
    (answers set r t (Step t) refl) is)
plain_keeps set threads events _ l plain is tells = cc

pub plain_stays : PlainStepsStepOrStay
plain_stays set threads events (Step t) plain other =
    let r : Run = run set threads events in
    ap (λ (x : Run). x.world) (run_more set (begun set threads) events (Step t))
    ∙ answered_same set r t plain (step set r (Step t)) (answers set r t (Step t) refl) other
plain_stays set threads events _ plain other = cc
