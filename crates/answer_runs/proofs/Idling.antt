-- Where no thread has frames none waits in a ring.
use Rattle.std.proofs.Common.{◌≡◌, ◌∙◌, ℕ, arith, zero, suc, false, true, List, [], ◌∷◌, length, None, Option, Some, refl, ap, sym}
use Rattle.std.specs.Prelude.{nat_lt, option_and_then, option_map, slice_get}
use Rattle.model.specs.declared.event.Lock.{Lock}
use Rattle.model.specs.declared.limits.TheConstants.{MAX_THREADS}
use Rattle.model.specs.declared.world.Frame.{Frame}
use Rattle.model.specs.declared.world.Thread.{Thread}
use Rattle.model.specs.Effect.{top_of}
use Rattle.model.specs.Run.{frames_of}
use Rattle.model.specs.Set.{Set}
use Rattle.model.specs.View.{has_frames, thread_view}
use Rattle.model.specs.World.{World, owner_of}
use Rattle.laws_runs.proofs.Past.Packets.{lt_true}
use Rattle.laws_runs.specs.Waiting.{other_owner, sought_by, waits_for}
use Rattle.tell_audit.specs.Findings.{rings_below, ringed_threads}
use Rattle.tell_audit.specs.Ring.{is_in_ring, is_met}
use Rattle.workers_script.specs.Standing.{AreIdle}

no_top : (frames : List Frame) → nat_lt 0 (length frames) ≡ false → top_of frames ≡ None
no_top [] idle = refl
no_top (f ∷ frames) idle =
    let no : true ≡ false = sym (lt_true 0 (length (f ∷ frames)) (omega arith)) ∙ idle in cc

no_top_on : (o : Option Thread) → has_frames (option_map thread_view o) ≡ false
    → top_of (frames_of o) ≡ None
no_top_on None idle = refl
no_top_on (Some thread) idle = no_top thread.frames.items idle

module _ (set : Set) (w : World) (idle : AreIdle w) where
  waits_none : (t : ℕ) → waits_for set w t ≡ None
  waits_none t =
      ap
      (λ (top : Option Frame). option_and_then
      (λ (lock : Lock). other_owner t (owner_of w.shared.locks lock))
      (option_and_then (λ (f : Frame). sought_by set f) top))
      (no_top_on (slice_get w.threads t) (idle t))

  none_met : (t steps : ℕ) → is_met set w t steps None ≡ false
  none_met t zero = refl
  none_met t (suc steps) = refl

  not_ringed : (t : ℕ) → is_in_ring set w t ≡ false
  not_ringed t =
      ap (λ (u : Option ℕ). is_met set w t MAX_THREADS u) (waits_none t) ∙ none_met t MAX_THREADS

  none_below : (t : ℕ) → rings_below set w t ≡ []
  none_below zero = refl
  none_below (suc t) = rw (none_below t, not_ringed t) refl

pub none_ringed : (set : Set) (w : World) → AreIdle w → ringed_threads set w ≡ []
none_ringed set w idle = none_below set w idle MAX_THREADS
