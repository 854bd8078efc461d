-- The threads of a world, where another stands in place of one.
use Rattle.laws_runs.proofs.Prelude.{ap, inl, inr, refl, subst, sym, zero, ◌∙◌, cases_eq, List, Option, Some, [], replicate, slice_get, suc, ℕ, ◌++◌, ◌∷◌, ◌≡◌, ◌≢◌, with_thread, frames_of, frames_on, Set, Shared, World, idle_thread, Frame, Thread}
use Rattle.laws_runs.proofs.Lists.{set_same, set_other}
use Rattle.laws_runs.proofs.Runs.Events.{StepsFrame}

module _ (w : World) (t : ℕ) where
  pub frames_there : (thread : Thread) → slice_get w.threads t ≡ Some thread
      → frames_on w t ≡ thread.frames.items
  frames_there thread found = ap frames_of found

  -- what holds of all frames holds of those below the top one with it
  pub of_steps : {set : Set} (P : List Frame → Type 0) (h : StepsFrame set w t)
      → P (frames_on w t) → P (h.below ++ h.frame ∷ [])
  of_steps P h holds = subst P (frames_there h.thread h.found ∙ h.frames) holds

  module _ (s : Shared) (after : Thread) where
    pub thread_put : (thread : Thread) → slice_get w.threads t ≡ Some thread
        → slice_get (with_thread w t s after).threads t ≡ Some after
    thread_put thread found = set_same w.threads t thread after found

    pub thread_other : (k : ℕ) → t ≢ k → slice_get (with_thread w t s after).threads k
        ≡ slice_get w.threads k
    thread_other k apart = set_other w.threads t k after apart

    pub frames_put : (thread : Thread) → slice_get w.threads t ≡ Some thread
        → frames_on (with_thread w t s after) t ≡ after.frames.items
    frames_put thread found = ap frames_of (thread_put thread found)

    pub others_put : (k : ℕ) → t ≢ k → frames_on (with_thread w t s after) k ≡ frames_on w k
    others_put k apart = ap frames_of (thread_other k apart)

    -- what holds of the new one and of each other one holds of each
    pub each_thread : (P : ℕ → Option Thread → Type 0) (thread : Thread)
        → slice_get w.threads t ≡ Some thread
        → P t (Some after) → ((k : ℕ) → t ≢ k → P k (slice_get w.threads k))
        → (k : ℕ) → P k (slice_get (with_thread w t s after).threads k)
    each_thread P thread found here others k =
        elim (cases_eq t k) [
          | inl same ↦
              subst (λ (j : ℕ). P j (slice_get (with_thread w t s after).threads j)) same
              (subst (λ (o : Option Thread). P t o) (sym (thread_put thread found)) here)
          | inr apart ↦ subst (λ (o : Option Thread). P k o) (sym (thread_other k apart))
              (others k apart)
        ]

    pub each_frames : (P : ℕ → List Frame → Type 0) (thread : Thread)
        → slice_get w.threads t ≡ Some thread
        → P t after.frames.items → ((k : ℕ) → t ≢ k → P k (frames_on w k))
        → (k : ℕ) → P k (frames_on (with_thread w t s after) k)
    each_frames P thread found here others =
        each_thread (λ k o. P k (frames_of o)) thread found here others

-- before the first event
pub idle_frames : (threads t : ℕ) → frames_of (slice_get (replicate threads idle_thread) t) ≡ []
idle_frames zero t = refl
idle_frames (suc threads) zero = refl
idle_frames (suc threads) (suc t) = idle_frames threads t
