-- A step of a thread leaves the frames of the others.
use Rattle.std.proofs.Common.{◌≡◌, ◌≢◌, ◌∙◌, ◌-◌, ℕ, Bool, true, false, List, Option, None, Some, ap, length, refl, take, if◌then◌else◌}
use Rattle.std.specs.Prelude.{option_map, slice_get}
use Rattle.laws_runs.proofs.History.Waits.{run_more}
use Rattle.laws_runs.proofs.Lists.{set_other}
use Rattle.laws_runs.proofs.Runs.Events.{Answers, answers, goes_on_with, refuses_over, refuses_stopped, stops_for, stops_wrong}
use Rattle.model.specs.declared.event.Event.{Event}
use Rattle.model.specs.declared.event.Event.TheVariants.{Step}
use Rattle.model.specs.declared.world.Frame.{Frame}
use Rattle.model.specs.declared.world.Thread.{Thread}
use Rattle.model.specs.Effect.{frame_effect, top_of}
use Rattle.model.specs.Events.{effect, standing, step_thread, top_effect, with_stack}
use Rattle.model.specs.Run.{Answered, Run, begun, step}
use Rattle.model.specs.Set.{Set}
use Rattle.model.specs.View.{busy_at, has_frames, thread_view}
use Rattle.model.specs.World.{World}
use Rattle.scenario_run.specs.declared.playing.Outcome.{Outcome}
use Rattle.scenario_run.specs.Playing.{Playing, Went, happened, has_room, one, run_of, with_event, world_of}

module _ (set : Set) (t u : ℕ) (apart : t ≢ u) where
  top_apart : (w : World) (x : Thread) (below : List Frame) (f : Option Frame)
      → slice_get (top_effect set w t x below f).world.threads u ≡ slice_get w.threads u
  top_apart w x below None = refl
  top_apart w x below (Some f) =
      set_other w.threads t u
      (with_stack x (standing set below (frame_effect set w.shared t (top_of below) f))) apart

  step_apart : (w : World) (o : Option Thread)
      → slice_get (step_thread set w t o).world.threads u ≡ slice_get w.threads u
  step_apart w None = refl
  step_apart w (Some x) =
      let below : List Frame = take (length x.frames.items - 1) x.frames.items in
      top_apart w x below (slice_get x.frames.items (length x.frames.items - 1))

  answered_apart : (r : Run) (a : Answered) → Answers set r t (effect set r.world (Step t)) a
      → slice_get a.run.world.threads u ≡ slice_get r.world.threads u
  answered_apart r a (refuses_stopped on) = refl
  answered_apart r a (refuses_over on quiet over) = refl
  answered_apart r a (goes_on_with on quiet within) =
      step_apart r.world (slice_get r.world.threads t)
  answered_apart r a (stops_for bug on fault) = refl
  answered_apart r a (stops_wrong place on wrong) = refl

module _ (p : Playing) (t u : ℕ) (apart : t ≢ u) where
  with_step_apart : slice_get (world_of (with_event p (Step t))).threads u
      ≡ slice_get (world_of p).threads u
  with_step_apart =
      ap (λ (r : Run). slice_get r.world.threads u)
      (run_more p.set (begun p.set p.threads) p.events (Step t))
      ∙ answered_apart p.set t u apart (run_of p) (step p.set (run_of p) (Step t))
      (answers p.set (run_of p) t (Step t) refl)

  happened_apart : (b : Bool)
      → slice_get (world_of (if b then with_event p (Step t) else p)).threads u
      ≡ slice_get (world_of p).threads u
  happened_apart true = with_step_apart
  happened_apart false = refl

  pub frames_apart : slice_get (world_of (happened p (Step t))).threads u
      ≡ slice_get (world_of p).threads u
  frames_apart = happened_apart (has_room p)

  -- so it is as busy as it was
  pub busy_apart : busy_at (world_of (happened p (Step t))) u ≡ busy_at (world_of p) u
  busy_apart =
      ap (λ (o : Option Thread). has_frames (option_map thread_view o))
      frames_apart

-- an event leaves the threads
pub same_threads : (p : Playing) (e : Event) (b : Bool)
    → (if b then with_event p e else p).threads ≡ p.threads
same_threads p e true = refl
same_threads p e false = refl

pub one_threads : (p q : Playing) (e : Event) (outcome : Outcome)
    → record { now = q; outcome = outcome } ≡ one p e → q.threads ≡ p.threads
one_threads p q e outcome gone =
    ap (λ (w : Went). w.now.threads) gone ∙ same_threads p e (has_room p)

-- and the set
pub same_set : (p : Playing) (e : Event) (b : Bool)
    → (if b then with_event p e else p).set ≡ p.set
same_set p e true = refl
same_set p e false = refl
