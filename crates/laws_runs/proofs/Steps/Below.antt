-- What stands after a step: no step takes the frame below away, but that of a completion routine
-- which stops the completion.
use Rattle.laws_runs.proofs.Prelude.{ap, append-nil, inl, inr, refl, take, ◌-◌, Bool, List, None, Option, [], false, length, true, ℕ, ◌++◌, ◌∷◌, ◌≡◌, ◌⊎◌, Executes, Outcome, kept_below, told_to, top_of, standing, is_completion, Set, sort_of, Shared, Ret, Stop, Activation, CancelStep, Frame, Routine, Walk}
use Rattle.laws_runs.proofs.Lists.{last_split}
use Rattle.laws_runs.proofs.Steps.Comes.{Cancels, takes_cancel, Comes, Executing, errs, stops_walk, cancels}

module _ (set : Set) (s : Shared) (t : ℕ) where
  abbrev pub takes_below : (under : Option Frame) (f : Frame) (o : Outcome)
      → Comes set s t under f o
      → Bool
  takes_below under f o (stops_walk a n at sort) = true
  takes_below under f o _ = false

  pub cancel_takes : (n : ℕ) (step : CancelStep) (o : Outcome) → Cancels set s t n step o
      → o.taken_below ≡ false
  cancel_takes n step o (takes_cancel free) = refl
  cancel_takes n step o _ = refl

  pub nothing_taken : (under : Option Frame) (f : Frame) (o : Outcome) (c : Comes set s t under f o)
      → takes_below under f o c ≡ false → o.taken_below ≡ false
  nothing_taken under f o (errs a lacks) kept = refl
  nothing_taken under f o (stops_walk a n at sort) kept = cc
  nothing_taken under f o (cancels n step made moves) kept = cancel_takes n step made moves
  nothing_taken under f o _ kept = refl

  pub standing_is : (under : Option Frame) (f : Frame) (o : Outcome) (below : List Frame)
      → (c : Comes set s t under f o) → takes_below under f o c ≡ false
      → standing set below o ≡ told_to set below o.told ++ o.frames
  standing_is under f o below c kept =
      ap (λ (taken : Bool). told_to set (kept_below below taken) o.told ++ o.frames)
      (nothing_taken under f o c kept)

-- a completion routine stops the completion: the I/O manager's frame below it is gone with its own
pub record StopsBelow (set : Set) (s : Shared) (below : List Frame) (f : Frame) (o : Outcome) : Type
    0 where
  pub a : Activation
  pub n : ℕ
  pub others : List Frame
  pub frame : f ≡ Routine a
  pub below_is : below ≡ others ++ Walk n ∷ []
  pub at : Executing set a (Ret Stop)
  pub sort : is_completion (sort_of set a.driver a.routine) ≡ true
  pub shared : o.shared ≡ s
  pub frames : o.frames ≡ []
  pub told : o.told ≡ None
  pub actions : o.actions ≡ Executes ∷ []
  pub stands : standing set below o ≡ others

-- what stands after a step over the frames below: they, told what they are to know, and the frames
-- in place of the one that ran; or the completion is stopped
module _ (set : Set) (s : Shared) (t : ℕ) (below : List Frame) where
  stood_by : (under : Option Frame) (f : Frame) (o : Outcome) → top_of below ≡ under
      → Comes set s t under f o
      → (standing set below o ≡ told_to set below o.told ++ o.frames) ⊎ StopsBelow set s below f o
  stood_by under f o top (stops_walk a n at sort) =
      inr (record {
        a = a;
        n = n;
        others = take (length below - 1) below;
        frame = refl;
        below_is = last_split below (Walk n) top;
        at = at;
        sort = sort;
        shared = refl;
        frames = refl;
        told = refl;
        actions = refl;
        stands = append-nil (take (length below - 1) below);
      })
  stood_by under f o top (errs a lacks) = inl refl
  stood_by under f o top (cancels n step made moves) =
      inl (standing_is set s t under f o below (cancels n step made moves) refl)
  stood_by under f o top c = inl (standing_is set s t under f o below c refl)

  pub stood : (f : Frame) (o : Outcome) → Comes set s t (top_of below) f o
      → (standing set below o ≡ told_to set below o.told ++ o.frames) ⊎ StopsBelow set s below f o
  stood f o comes = stood_by (top_of below) f o refl comes
