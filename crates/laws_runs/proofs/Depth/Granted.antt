-- A step of a thread that is there is refused for want of room alone, and no thread comes to be or
-- ends.
use Rattle.laws_runs.proofs.Common.{refl, sym, take, ◌-◌, ◌∙◌, length-set, slice_get-get_or, Bool, List, None, Option, Some, [], false, length, slice_get, true, ℕ, ◌<◌, ◌≡◌, Outcome, frame_effect, top_of, Change, effect, finished_or, standing, step_thread, top_effect, Set, Shared, World, idle_thread, Step, Reply, Refused, Stepped, CancelStep, Frame, Thread, Cancels, Comes, cancels, errs, takes_cancel, comes}
use Rattle.laws_runs.proofs.Runs.Events.{Happens, nothing}

abbrev pub is_refused : Reply → Bool
is_refused Refused = true
is_refused _ = false

-- no step of a frame is refused
granted_cancel : (set : Set) (s : Shared) (t n : ℕ) (step : CancelStep) (o : Outcome)
    → Cancels set s t n step o → is_refused o.reply ≡ false
granted_cancel set s t n step o (takes_cancel free) = refl
granted_cancel set s t n step o _ = refl

granted : (set : Set) (s : Shared) (t : ℕ) (under : Option Frame) (f : Frame) (o : Outcome)
    → Comes set s t under f o
    → is_refused o.reply ≡ false
granted set s t under f o (errs a lacks) = refl
granted set s t under f o (cancels n step made moves) = granted_cancel set s t n step made moves
granted set s t under f o _ = refl

finished_granted : (frames : List Frame) (reply : Reply) → is_refused reply ≡ false
    → is_refused (finished_or frames reply) ≡ false
finished_granted [] Stepped h = refl
finished_granted _ _ h = h

granted_top : (set : Set) (w : World) (t : ℕ) (thread : Thread) (below : List Frame)
    (o : Option Frame)
    → is_refused (top_effect set w t thread below o).reply ≡ false
granted_top set w t thread below None = refl
granted_top set w t thread below (Some f) =
    let outcome : Outcome = frame_effect set w.shared t (top_of below) f in
    finished_granted (standing set below outcome) outcome.reply
    (granted set w.shared t (top_of below) f outcome (comes set w.shared t (top_of below) f))

granted_thread : (set : Set) (w : World) (t : ℕ) (o : Option Thread) → slice_get w.threads t ≡ o
    → t < length w.threads → is_refused (step_thread set w t o).reply ≡ false
granted_thread set w t (Some thread) found within =
    granted_top set w t thread (take (length thread.frames.items - 1) thread.frames.items)
    (slice_get thread.frames.items (length thread.frames.items - 1))
granted_thread set w t None found within =
    let there : slice_get w.threads t ≡ Some _ = slice_get-get_or w.threads t idle_thread within in
    let no : None ≡ Some _ = sym found ∙ there in
    cc

pub granted_step : (set : Set) (w : World) (t : ℕ) → t < length w.threads
    → is_refused (effect set w (Step t)).reply ≡ false
granted_step set w t within = granted_thread set w t (slice_get w.threads t) refl within

-- no event makes a thread or ends one
pub same_count : (set : Set) (w : World) (t : ℕ) (c : Change) → Happens set w t c
    → length c.world.threads ≡ length w.threads
same_count set w t c (nothing reply right) = refl
same_count set w t c _ = length-set w.threads t _
