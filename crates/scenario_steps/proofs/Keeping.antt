-- Steps as they are kept: what stands among those that are kept as they are, and stays so.
use Rattle.std.proofs.Common.{◌≡◌, ◌∙◌, ◌+◌, ◌++◌, ℕ, false, List, [], ◌∷◌, ap, arith, is_some, length, refl, subst, sym}
use Rattle.std.specs.Prelude.{map}
use Rattle.std.proofs.lemmas.List.{get_or_append_left, get_or_push, length-append, map_push}
use Rattle.scenario_steps.specs.Judging.{expects_audit, is_of_verdict}
use Rattle.scenario_steps.specs.Steps.{AreIn, IsIn, action_of, is_of, no_step, together_of, unfolded}
use Rattle.scenario_steps.specs.declared.scenario.Step.{Step}
use Rattle.scenario_steps.specs.declared.steps.Kept.{Kept}
use Rattle.scenario_steps.specs.declared.steps.Kept.TheVariants.{Brief, Whole}
use Rattle.scenario_steps.specs.declared.steps.Kind.{Kind}
use Rattle.scenario_steps.specs.declared.steps.Kind.TheVariants.{Verdict, Audit, Together}
use Rattle.scenario_steps.specs.declared.steps.Usual.{Usual}
use Rattle.scenario_steps.specs.declared.steps.Usual.TheVariants.{Request, Interruption, Deferred, Running, ToppedAs}

one_in_more : (n : ℕ) (one : Kept) → IsIn n one → IsIn (n + 1) one
one_in_more n (Brief line usual) inside = inside
one_in_more n (Whole place) inside = omega (arith, inside)

in_more : (n : ℕ) (kept : List Kept) → AreIn n kept → AreIn (n + 1) kept
in_more n [] all = all
in_more n (one ∷ kept) all = (one_in_more n one all.0, in_more n kept all.1)

pub in_pushed : (n : ℕ) (kept : List Kept) (one : Kept) → AreIn n kept → IsIn n one
    → AreIn n (kept ++ one ∷ [])
in_pushed n [] one all last = (last, tt)
in_pushed n (first ∷ kept) one all last = (all.0, in_pushed n kept one all.1 last)

pub in_popped : (n : ℕ) (kept : List Kept) (one : Kept) → AreIn n (kept ++ one ∷ []) → AreIn n kept
in_popped n [] one all = tt
in_popped n (first ∷ kept) one all = (all.0, in_popped n kept one all.1)

module _ (whole : List Step) (step : Step) where
  abbrev more : List Step
  more = whole ++ step ∷ []

  one_same : (one : Kept) → IsIn (length whole) one → unfolded more one ≡ unfolded whole one
  one_same (Brief line usual) inside = refl
  one_same (Whole place) inside = get_or_append_left whole (step ∷ []) no_step place inside

  same : (kept : List Kept) → AreIn (length whole) kept
      → map (unfolded more) kept ≡ map (unfolded whole) kept
  same [] all = refl
  same (one ∷ kept) all =
      ap (λ (s : Step). s ∷ map (unfolded more) kept) (one_same one all.0)
      ∙ ap (λ (rest : List Step). unfolded whole one ∷ rest) (same kept all.1)

  last_whole : unfolded more (Whole (length whole)) ≡ step
  last_whole = get_or_push whole step no_step (length whole) refl

  -- behind a step more that is kept as it is all stand among them
  pub whole_in : (now : List Step) (kept next : List Kept) → now ≡ more
      → next ≡ kept ++ Whole (length whole) ∷ [] → AreIn (length whole) kept
      → AreIn (length now) next
  whole_in now kept next grown pushed all =
      let count : length whole + 1 ≡ length now =
      sym (length-append whole (step ∷ [])) ∙ ap (λ (s : List Step). length s) (sym grown) in
      subst (λ (k : List Kept). AreIn (length now) k) (sym pushed)
      (subst (λ (m : ℕ). AreIn m (kept ++ Whole (length whole) ∷ [])) count
      (in_pushed (length whole + 1) kept (Whole (length whole)) (in_more (length whole) kept all)
      (omega arith)))

  -- and it stands behind them
  pub whole_pushed : (now : List Step) (kept next : List Kept) → now ≡ more
      → next ≡ kept ++ Whole (length whole) ∷ [] → AreIn (length whole) kept
      → map (unfolded now) next ≡ map (unfolded whole) kept ++ step ∷ []
  whole_pushed now kept next grown pushed all =
      ap (λ (k : List Kept). map (unfolded now) k) pushed
      ∙ ap (λ (s : List Step). map (unfolded s) (kept ++ Whole (length whole) ∷ [])) grown
      ∙ map_push (unfolded more) kept (Whole (length whole))
      ∙ ap (λ (steps : List Step). steps ++ unfolded more (Whole (length whole)) ∷ []) (same kept all)
      ∙ ap (λ (s : Step). map (unfolded whole) kept ++ s ∷ []) last_whole

-- none of those that do what is usual is of a kind that is looked for
no_kind : (usual : Usual) → (is_of_verdict (action_of usual) ≡ false)
    × (expects_audit (action_of usual) ≡ false) × (is_some (together_of (action_of usual)) ≡ false)
no_kind (Request thread device major argument) = (refl, refl, refl)
no_kind (Interruption device) = (refl, refl, refl)
no_kind (Deferred thread device) = (refl, refl, refl)
no_kind (Running thread) = (refl, refl, refl)
no_kind (ToppedAs packet status) = (refl, refl, refl)

pub usual_of : (kind : Kind) (line : ℕ) (usual : Usual) (whole : List Step)
    → is_of kind (unfolded whole (Brief line usual)) ≡ false
usual_of Verdict line usual whole = (no_kind usual).0
usual_of Audit line usual whole = (no_kind usual).1
usual_of Together line usual whole = (no_kind usual).2
