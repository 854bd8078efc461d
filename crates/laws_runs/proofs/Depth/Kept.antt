-- No thread of an accepted set ever has more than 18 frames, so no step of a thread that is there
-- is refused.
use Rattle.laws_runs.proofs.Common.{arith, inl, inr, refl, subst, sym, slice_get_within, List, Option, Some, [], false, length, slice_get, true, ℕ, ◌++◌, ◌∷◌, ◌≡◌, ◌≤◌, Outcome, top_of, Change, settled, standing, with_stack, with_thread, begun, frames_on, Set, IsSound, Entry, Shared, World, MAX_FRAMES, CancelStep, Frame, CancelFrame, Routine, Walk, Irql, Thread, States, RootFrame, root_cancels, root_enters, IsGood, Serves, OnTop, Standing, on_top, root_there, stands_there, stood, Cancels, Comes, cancels, takes_cancel, walks_gone, works_on_queues, works_on_waiting}
use Rattle.std.proofs.lemmas.Bool.{le-ltb}
use Rattle.laws_runs.proofs.Depth.Falls.{Falls, falls_length, falls_before, falls_after, short, is_cancelling}
use Rattle.laws_runs.proofs.Runs.Events.{Happens, StepsFrame, nothing, steps, begins}
use Rattle.laws_runs.proofs.Runs.Roots.{with_root}
use Rattle.laws_runs.proofs.Runs.Threads.{of_steps, frames_put, each_frames, idle_frames}
use Rattle.laws_runs.proofs.Holders.Counts.{Holding}
use Rattle.laws_runs.proofs.Holders.Sums.{Held}
use Rattle.laws_runs.proofs.Holders.Runs.{top_holding}
use Rattle.laws_runs.proofs.Claims.Full.{OwnApart, never_full, own_apart}
use Rattle.laws_runs.proofs.Claims.Sums.{Claimed}

-- the frames of every thread stand for lower and lower devices
abbrev pub AllFall : Set → World → Type 0
AllFall set w = (t : ℕ) → Falls (length set.devices) (frames_on w t)

pub falls_begun : (set : Set) (threads : ℕ) → AllFall set (begun set threads).world
falls_begun set threads =
    λ t. subst (λ (frames : List Frame). Falls (length set.devices) frames)
    (sym (idle_frames threads t)) tt

-- at most 16 devices, so at most 18 frames
pub few_frames : (set : Set) (w : World) (t : ℕ) → IsSound set → AllFall set w
    → length (frames_on w t) ≤ 18
few_frames set w t sound falls =
    let few : length set.devices ≤ 16 = sound.few_devices in
    omega (arith, falls_length (length set.devices) (frames_on w t) (falls t))

walk_full_of : (set : Set) (s : Shared) (t : ℕ) (under : Option Frame) (n : ℕ) (o : Outcome)
    → Comes set s t under (Walk n) o → o.full ≡ false
walk_full_of set s t under n o (walks_gone m gone) = refl
walk_full_of set s t under n o _ = refl

cancel_full : (set : Set) (s : Shared) (t n : ℕ) (step : CancelStep) (o : Outcome)
    → Cancels set s t n step o → o.full ≡ false
cancel_full set s t n step o (takes_cancel free) = refl
cancel_full set s t n step o _ = refl

cancel_full_of : (set : Set) (s : Shared) (t : ℕ) (under : Option Frame) (f : Frame) (o : Outcome)
    → is_cancelling f ≡ true → Comes set s t under f o → o.full ≡ false
cancel_full_of set s t under f o is (cancels n step made moves) =
    cancel_full set s t n step made moves
cancel_full_of set s t under f o is (works_on_queues a i b queues starts actions full at queued) =
    cc
cancel_full_of set s t under f o is (works_on_waiting a i starts n p armer full at there waits) = cc
cancel_full_of set s t under f o is _ = refl

module _ (set : Set) (states : States) (w : World) (t : ℕ) (falls : AllFall set w) where
  falls_put : (s : Shared) (thread after : Thread) → slice_get w.threads t ≡ Some thread
      → Falls (length set.devices) after.frames.items → AllFall set (with_thread w t s after)
  falls_put s thread after found new =
      each_frames w t s after (λ k frames. Falls (length set.devices) frames) thread found new
      (λ k apart. falls k)

  root_falls : {issued : ℕ} {level : Irql} {f : Frame} → RootFrame set states issued level f
      → Falls (length set.devices) (f ∷ [])
  root_falls (root_enters a sort first root enters) =
      let served : Serves set a.device a.driver = enters.ready.1.serves in
      (slice_get_within set.devices a.device served.0 served.1, tt)
  root_falls (root_cancels n low) = refl

  -- an event keeps them
  pub falls_event : (past : List Entry) (c : Change) → IsGood set states
      → Standing set states w past
      → Happens set w t c → AllFall set c.world
  falls_event past c good stands (nothing reply right) = falls
  falls_event past c good stands (steps h) =
      let o : Outcome = h.outcome in
      let before : Falls (length set.devices) (h.below ++ h.frame ∷ []) =
      of_steps w t (Falls (length set.devices)) h (falls t) in
      let after : Falls (length set.devices) (standing set h.below o) =
      elim (stood set w.shared t h.below h.frame o h.comes) [
        | inl kept ↦
            subst (λ (frames : List Frame). Falls (length set.devices) frames) (sym kept)
            (falls_after set states w.shared.issued h.below h.frame o.told o.frames
            (stands_there set states w past good stands t h) before
            (short set states w.shared t (top_of h.below) h.frame o
            (on_top set states w past good stands t h) h.comes))
        | inr gone ↦
            subst (λ (frames : List Frame). Falls (length set.devices) frames) (sym gone.stands)
            (falls_before (length set.devices) gone.others (Walk gone.n ∷ [])
            (subst (λ (frames : List Frame). Falls (length set.devices) frames) gone.below_is
            (falls_before (length set.devices) h.below (h.frame ∷ []) before)))
      ]
      in
      falls_put o.shared h.thread (with_stack h.thread (standing set h.below o)) h.found after
  falls_event past c good stands (begins i root beside) =
      falls_put root.shared i.thread (with_root i.thread root) i.found
      (root_falls (root_there set states w past good stands root beside))

  -- no list is full
  not_full : (s : Shared) (past : List Entry) (under : Option Frame) (f : Frame) (o : Outcome)
      → Holding set states s past f → OwnApart set states s f → OnTop set states s f
      → Comes set s t under f o → o.full ≡ false
  not_full s past under (Routine a) o holding apart top c =
      never_full set states s past a holding apart t under o top c
  not_full s past under (Walk n) o holding apart top c = walk_full_of set s t under n o c
  not_full s past under (CancelFrame c) o holding apart top comes =
      cancel_full_of set s t under (CancelFrame c) o refl comes

  -- and passes no bound
  pub within_bounds : (past : List Entry) (h : StepsFrame set w t) → IsGood set states
      → Standing set states w past → Held set states w → Claimed set states w
      → AllFall set (settled set w t h.thread h.below h.outcome).world
      → (settled set w t h.thread h.below h.outcome).over ≡ false
  within_bounds past h good stands held claimed later =
      let after : World = (settled set w t h.thread h.below h.outcome).world in
      let few : length (frames_on after t) ≤ 18 = few_frames set after t good.sound later in
      let same : frames_on after t ≡ standing set h.below h.outcome =
      frames_put w t h.outcome.shared (with_stack h.thread (standing set h.below h.outcome))
      h.thread h.found in
      let less : length (standing set h.below h.outcome) ≤ 18 =
      subst (λ (frames : List Frame). length frames ≤ 18) same few in
      rw (not_full w.shared past (top_of h.below) h.frame h.outcome
      (top_holding set states w past stands held t h)
      (own_apart set states w past good stands held claimed t h)
      (on_top set states w past good stands t h) h.comes)
      (le-ltb MAX_FRAMES (length (standing set h.below h.outcome)) (omega arith))
