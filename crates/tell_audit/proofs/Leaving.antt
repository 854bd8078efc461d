-- No run of an accepted set leaves a lock behind.
use Rattle.std.proofs.Common.{◌≡◌, ◌∙◌, ℕ, zero, suc, List, [], ◌∷◌, length, Bool, true, false, Option, None, Some, refl, sym, ap, arith}
use Rattle.std.specs.Prelude.{nat_lt, option_map, slice_get}
use Rattle.model.specs.declared.event.Event.{Event}
use Rattle.model.specs.declared.event.Lock.{Lock}
use Rattle.model.specs.declared.event.Lock.TheVariants.{SystemCancel, Spin}
use Rattle.model.specs.declared.limits.TheConstants.{SPIN_LOCKS}
use Rattle.model.specs.declared.world.Frame.{Frame}
use Rattle.model.specs.declared.world.Thread.{Thread}
use Rattle.model.specs.Fault.{holds}
use Rattle.model.specs.Run.{Run, frames_of, frames_on, run}
use Rattle.model.specs.Set.{Set}
use Rattle.model.specs.Sound.{IsSound}
use Rattle.model.specs.Typable.{IsTypable}
use Rattle.model.specs.View.{busy_at, has_frames, thread_view}
use Rattle.model.specs.World.{World, owner_of}
use Rattle.laws_runs.specs.ArrivingStates.{States}
use Rattle.laws_runs.specs.PastTells.{PastTells}
use Rattle.laws_runs.proofs.Accepted.Lasts.{Lasts, lasts}
use Rattle.laws_runs.proofs.Locks.Says.{top_says}
use Rattle.laws_runs.proofs.Past.Packets.{lt_true}
use Rattle.laws_runs.proofs.Past.Runs.{telling_runs}
use Rattle.laws_runs.proofs.States.Frames.{IsGood}
use Rattle.laws_runs.proofs.States.Known.{led}
use Rattle.tell_audit.specs.Laws.{AcceptedRunsLeaveNoLock}
use Rattle.tell_audit.specs.Left.{left_at, left_before, left_below, left_by, left_locks}

-- where every owner has frames, no lock is left behind
module _ (w : World)
    (busy : (lock : Lock) (t : ℕ) → owner_of w.shared.locks lock ≡ Some (Some t)
    → busy_at w t ≡ true) where
  none_by : (lock : Lock) (o : Option (Option ℕ)) → owner_of w.shared.locks lock ≡ o
      → left_by w lock o ≡ []
  none_by lock None is = refl
  none_by lock (Some None) is = refl
  none_by lock (Some (Some t)) is = rw (busy lock t is) refl

  none_at : (lock : Lock) → left_at w lock ≡ []
  none_at lock = none_by lock (owner_of w.shared.locks lock) refl

  none_below : (d l : ℕ) → left_below w d l ≡ []
  none_below d zero = refl
  none_below d (suc l) =
      rw (none_below d l) (none_at (Spin (record { device = d; number = l })))

  none_before : (d : ℕ) → left_before w d ≡ []
  none_before zero = refl
  none_before (suc d) = rw (none_before d) (none_below d SPIN_LOCKS)

  none_left : (devices : ℕ) → left_locks w devices ≡ []
  none_left devices = rw (none_at SystemCancel) (none_before devices)

-- a thread has frames, or it has none
busy_frames : (frames : List Frame) → (frames ≡ [] → ⊥) → nat_lt 0 (length frames) ≡ true
busy_frames [] h = absurd (h refl)
busy_frames (f ∷ frames) h = lt_true 0 (length (f ∷ frames)) (omega arith)

busy_thread : (o : Option Thread) → (frames_of o ≡ [] → ⊥)
    → has_frames (option_map thread_view o) ≡ true
busy_thread None h = absurd (h refl)
busy_thread (Some thread) h = busy_frames thread.frames.items h

module _ (set : Set) (typable : IsTypable set) (sound : IsSound set) (threads : ℕ)
    (events : List Event) where
  abbrev here : Run
  here = run set threads events

  abbrev states : States
  states = (led set typable sound).0

  good : IsGood set states
  good = record { sound = sound; led = (led set typable sound).1 }

  owner_busy : (lock : Lock) (t : ℕ) → owner_of here.world.shared.locks lock ≡ Some (Some t)
      → busy_at here.world t ≡ true
  owner_busy lock t is =
      let lasting : Lasts set states good threads here = lasts set states good threads events in
      let tells : PastTells here = telling_runs set sound threads events lasting.on in
      let says : true ≡ top_says states (frames_on here.world t) lock =
      sym (tells.holder t lock is) ∙ lasting.keeps.locks t lock in
      busy_thread (slice_get here.world.threads t)
      (λ none.
      let no : true ≡ false =
      says ∙ ap (λ (frames : List Frame). top_says states frames lock) none in
      cc)

pub leaves_none : AcceptedRunsLeaveNoLock
leaves_none set typable sound threads events =
    none_left (run set threads events).world (owner_busy set typable sound threads events)
    (length set.devices)
