-- Where none of the threads that a run of an accepted set has is busy, no thread is.
use Rattle.std.proofs.Common.{◌≡◌, ◌<◌, ℕ, arith, false, inl, inr, length, List, None, Option, refl, subst, sym}
use Rattle.std.proofs.lemmas.Bool.{cases_lt}
use Rattle.std.proofs.lemmas.Option.{slice_get_past}
use Rattle.std.specs.Prelude.{option_map, slice_get}
use Rattle.model.specs.declared.event.Event.{Event}
use Rattle.model.specs.declared.world.Thread.{Thread}
use Rattle.model.specs.Run.{run}
use Rattle.model.specs.Set.{Set}
use Rattle.model.specs.Sound.{IsSound}
use Rattle.model.specs.Typable.{IsTypable}
use Rattle.model.specs.View.{busy_at, has_frames, thread_view}
use Rattle.model.specs.World.{World}
use Rattle.laws_runs.proofs.Accepted.Lasts.{lasts}
use Rattle.laws_runs.proofs.Common.{led}

counted : (set : Set) → IsTypable set → IsSound set → (threads : ℕ) (events : List Event)
    → length (run set threads events).world.threads ≡ threads
counted set typable sound threads events =
    let arriving = led set typable sound in
    (lasts set arriving.0 (record { sound = sound; led = arriving.1 }) threads events).keeps.count

-- a thread that isn't there is not busy
absent : (w : World) (t : ℕ) → slice_get w.threads t ≡ None → busy_at w t ≡ false
absent w t none =
    let P : Option Thread → Type 0 = λ o. has_frames (option_map thread_view o) ≡ false in
    subst P (sym none) refl

pub all_idle : (set : Set) → IsTypable set → IsSound set → (threads : ℕ) (events : List Event)
    → ((t : ℕ) → t < threads → busy_at (run set threads events).world t ≡ false)
    → (t : ℕ) → busy_at (run set threads events).world t ≡ false
all_idle set typable sound threads events idle t =
    let w = (run set threads events).world in
    let count : length w.threads ≡ threads = counted set typable sound threads events in
    elim (cases_lt t threads) [
      | inl h ↦ idle t h
      | inr h ↦ absent w t (slice_get_past w.threads t (omega (arith, h, count)))
    ]
