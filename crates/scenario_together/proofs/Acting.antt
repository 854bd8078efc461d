-- What each of some plays does by itself, one after another.
use Rattle.std.proofs.Common.{◌≡◌, ◌∙◌, ◌<◌, ◌≤◌, ◌+◌, ℕ, zero, suc, true, false, List, [], ◌∷◌, Option, Some, ap, arith, inl, inr, length, refl, slice_get, subst, sym}
use Rattle.std.proofs.Math.ListN.{length-set, set}
use Rattle.std.proofs.lemmas.Bool.{cases_lt}
use Rattle.std.proofs.lemmas.Option.{slice_get_within}
use Rattle.scenario_run.specs.Acting.{acted, passes}
use Rattle.scenario_run.specs.declared.playing.Outcome.{Outcome}
use Rattle.scenario_run.specs.Playing.{Playing, Went}
use Rattle.scenario_steps.specs.declared.scenario.Step.{Step}
use Rattle.scenario_together.specs.Joining.{ActedOn, ActsUpTo, FailsIn}

set_here : (xs : List Playing) (i : ℕ) (y : Playing) → i < length xs
    → slice_get (set xs i y) i ≡ Some y
set_here [] i y inside = absurd (omega (arith, inside))
set_here (x ∷ xs) zero y inside = refl
set_here (x ∷ xs) (suc i) y inside = set_here xs i y (omega (arith, inside))

set_there : (xs : List Playing) (i k : ℕ) (y : Playing) → (k ≡ i → ⊥)
    → slice_get (set xs i y) k ≡ slice_get xs k
set_there [] i k y other = refl
set_there (x ∷ xs) zero zero y other = absurd (other refl)
set_there (x ∷ xs) zero (suc k) y other = refl
set_there (x ∷ xs) (suc i) zero y other = refl
set_there (x ∷ xs) (suc i) (suc k) y other =
    set_there xs i k y (λ same. other (ap (λ (n : ℕ). suc n) same))

one_of_two : (o : Option Playing) (x y : Playing) → o ≡ Some x → o ≡ Some y → x ≡ y
one_of_two o x y h g = cc

-- before the first
pub acts_none : (step : Step) (before : List Playing) → ActsUpTo step before before 0
acts_none step before =
    record {
      long = refl;
      acted_on = λ k q less at. absurd (omega (arith, less));
      pass = λ k q less at. absurd (omega (arith, less));
      rest = λ k from. refl;
    }

-- the one at a place does it
module _ (step : Step) (before after next : List Playing) (place : ℕ) (was now : Playing)
    (outcome : Outcome) (up : ActsUpTo step before after place)
    (there : slice_get after place ≡ Some was) (is : next ≡ set after place now)
    (went : record { now = now; outcome = outcome } ≡ acted was step.action) where
  inside : place < length after
  inside = slice_get_within after place was there

  at_other : (k : ℕ) → (k ≡ place → ⊥) → slice_get next k ≡ slice_get after k
  at_other k other =
      ap (λ (ps : List Playing). slice_get ps k) is ∙ set_there after place k now other

  at_place : slice_get next place ≡ Some now
  at_place =
      ap (λ (ps : List Playing). slice_get ps place) is ∙ set_here after place now inside

  at_first : slice_get before place ≡ Some was
  at_first = sym (up.rest place (omega arith)) ∙ there

  acted_there : (q : Playing) → slice_get before place ≡ Some q
      → slice_get next place ≡ Some (acted q step.action).now
  acted_there q at =
      at_place
      ∙ ap (λ (w : Went). Some w.now) went
      ∙ ap (λ (x : Playing). Some (acted x step.action).now)
      (one_of_two (slice_get before place) was q at_first at)

  outcome_there : (q : Playing) → slice_get before place ≡ Some q
      → passes step.may (acted q step.action).outcome ≡ passes step.may outcome
  outcome_there q at =
      ap (λ (x : Playing). passes step.may (acted x step.action).outcome)
      (one_of_two (slice_get before place) q was at at_first)
      ∙ ap (λ (w : Went). passes step.may w.outcome) (sym went)

  -- and passes
  pub acts_next : passes step.may outcome ≡ true → ActsUpTo step before next (place + 1)
  acts_next on =
      record {
        long = ap (λ (ps : List Playing). length ps) is ∙ length-set after place now ∙ up.long;
        acted_on = λ k q less at.
            elim (cases_lt k place) [
              | inl under ↦
                  at_other k (λ same. omega (arith, under, same))
                  ∙ up.acted_on k q under at
              | inr over ↦
                  let same : k ≡ place = omega (arith, less, over) in
                  let here : slice_get before place ≡ Some q =
                  subst (λ (n : ℕ). slice_get before n ≡ Some q) same at in
                  subst (λ (n : ℕ). slice_get next n ≡ Some (acted q step.action).now)
                  (sym same) (acted_there q here)
            ];
        pass = λ k q less at.
            elim (cases_lt k place) [
              | inl under ↦ up.pass k q under at
              | inr over ↦
                  let same : k ≡ place = omega (arith, less, over) in
                  outcome_there q (subst (λ (n : ℕ). slice_get before n ≡ Some q) same at) ∙ on
            ];
        rest = λ k from.
            at_other k (λ same. omega (arith, from, same))
            ∙ up.rest k (omega (arith, from));
      }

  -- or fails
  pub acts_badly : passes step.may outcome ≡ false → FailsIn step before next place
  acts_badly off =
      record {
        play = was;
        there = at_first;
        now = acted_there was at_first;
        fails = outcome_there was at_first ∙ off;
      }

-- behind the last
pub acts_all : (step : Step) (before after : List Playing) (place : ℕ)
    → ActsUpTo step before after place → length before ≤ place → ActedOn step before after
acts_all step before after place up all =
    record {
      long = up.long;
      acted_on = λ k q at.
          let inside : k < length before = slice_get_within before k q at in
          up.acted_on k q (omega (arith, inside, all)) at;
      pass = λ q among.
          let inside : among.number < length before =
          slice_get_within before among.number q among.there in
          up.pass among.number q (omega (arith, inside, all)) among.there;
    }
