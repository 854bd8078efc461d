-- Which refusals evidence can be asked for.
use Rattle.std.proofs.Common.{◌≡◌, ◌⊎◌, ◌≢◌, ◌∙◌, ◌<◌, ◌≤◌, ℕ, zero, suc, List, [], ◌∷◌, inl, inr, length, Option, None, Some, ap, option_and_then, option_map, option_to_list, refl, slice_get, subst, sym}
use Rattle.std.proofs.lemmas.Bool.Decides.{eqb_tells}
use Rattle.std.proofs.lemmas.List.{get_or-map}
use Rattle.std.proofs.lemmas.List.Elements.{All-append, All-cons, All-get_or, All-nil}
use Rattle.std.specs.Prelude.{All, get_or}
use Rattle.model.specs.declared.abs.Refusal.{Refusal}
use Rattle.model.specs.declared.abs.Rule.TheVariants.{Malformed, Memory}
use Rattle.model.specs.declared.set.Driver.{Driver}
use Rattle.model.specs.Set.{Member, Set, member}
use Rattle.model.specs.Typable.{IsFirstFault, at_start}
use Rattle.verifier_evidence.specs.Path.{member_of}
use Rattle.verifier_words.specs.declared.telling.Told.{Told}
use Rattle.verifier_words.specs.Faults.{AreBefore, AreFaults, AreOfDriver, AreOfRoutines, IsFound, own_fault, refusals}
use Rattle.answer_explain.specs.Faults.{IsFaultIn, IsFaultOf}

-- the first fault of a set is one
pub first_is_fault : (set : Set) (refusal : Refusal) → IsFirstFault set refusal
    → IsFaultOf set refusal
first_is_fault set refusal (inl own) = inl own
first_is_fault set refusal (inr h) =
    let there : member_of set refusal.driver refusal.routine
    ≡ Some (member set refusal.driver refusal.routine h.routine) =
    ap (λ d. option_map (λ routine. member set refusal.driver refusal.routine routine)
    (option_and_then (λ (d : Driver). slice_get d.routines refusal.routine) d)) h.driver_at
    ∙ ap (option_map (λ routine. member set refusal.driver refusal.routine routine)) h.routine_at in
    inr (rw there h.first)

-- unless memory ran out
pub refused_is_fault : (set : Set) (refusal : Refusal)
    → (refusal ≡ at_start Memory) ⊎ IsFirstFault set refusal → refusal.rule ≢ Memory
    → IsFirstFault set refusal
refused_is_fault set refusal (inl e) some = absurd (some (ap (λ (r : Refusal). r.rule) e))
refused_is_fault set refusal (inr first) some = first

-- the first faults of all routines are
found_is_fault : (set : Set) (m : Option Member) (number place : ℕ) (found : Option Refusal)
    → m ≡ member_of set number place → IsFound m number place found
    → All (IsFaultOf set) (option_to_list found)
found_is_fault set None number place found is h = absurd h
found_is_fault set (Some m) number place None is h = All-nil (IsFaultOf set)
found_is_fault set (Some m) number place (Some refusal) is h =
    let there : Some m ≡ member_of set refusal.driver refusal.routine =
    is ∙ sym (ap (λ d. member_of set d place) h.driver)
    ∙ sym (ap (λ r. member_of set refusal.driver r) h.routine) in
    let first : IsFaultIn (Some m) refusal = h.first in
    All-cons (IsFaultOf set) refusal [] (inr (subst (λ o. IsFaultIn o refusal) there first))
    (All-nil (IsFaultOf set))

of_routines : (set : Set) (number count : ℕ) (all : List Refusal)
    → AreOfRoutines set number count all → All (IsFaultOf set) all
of_routines set number zero all h = rw h (All-nil (IsFaultOf set))
of_routines set number (suc place) all (before, found, those, its, is) =
    rw is
    (All-append (IsFaultOf set) before (option_to_list found) (of_routines set number place before those)
    (found_is_fault set (member_of set number place) number place found refl its))

of_driver : (set : Set) (number : ℕ) (driver : Option Driver) (all : List Refusal)
    → AreOfDriver set number driver all → All (IsFaultOf set) all
of_driver set number None all h = absurd h
of_driver set number (Some driver) all h = of_routines set number (length driver.routines) all h

own_is_fault : (set : Set) → All (IsFaultOf set) (own_fault set)
own_is_fault set =
    elim (eqb_tells (length set.devices) 0) as (λ p. All (IsFaultOf set) (own_fault set)) [
      | inl p ↦
          rw p.0
          (All-cons (IsFaultOf set) (at_start Malformed) [] (inl (p.1, refl))
          (All-nil (IsFaultOf set)))
      | inr p ↦ rw p.0 (All-nil (IsFaultOf set))
    ]

faults_before : (set : Set) (count : ℕ) (all : List Refusal) → AreBefore set count all
    → All (IsFaultOf set) all
faults_before set zero all h = rw h (own_is_fault set)
faults_before set (suc number) all (before, own, those, its, is) =
    rw is
    (All-append (IsFaultOf set) before own (faults_before set number before those)
    (of_driver set number (slice_get set.drivers number) own its))

pub each_is_fault : (set : Set) (all : List Refusal) → AreFaults set all
    → All (IsFaultOf set) all
each_is_fault set all h = faults_before set (length set.drivers) all h

-- as many refusals are told of as are told
length_told : (all : List Told) → length (refusals all) ≡ length all
length_told [] = refl
length_told (one ∷ all) = ap (λ n. suc n) (length_told all)

-- one of several that are told
module _ (set : Set) (all : List Told) (i : ℕ) (one : Told) (within : i < length all)
    (is : one ≡ get_or all i one) where
  pub told_at : one.refusal ≡ get_or (refusals all) i one.refusal
  told_at =
      ap (λ (t : Told). t.refusal) is
      ∙ sym (get_or-map (λ (t : Told). t.refusal) all i one one.refusal within)

  pub within_told : i < length (refusals all)
  within_told = rw (length_told all) within

  pub fault_at : AreFaults set (refusals all) → IsFaultOf set one.refusal
  fault_at are =
      subst (IsFaultOf set) (sym told_at)
      (All-get_or (IsFaultOf set) (refusals all) i one.refusal within_told
      (each_is_fault set (refusals all) are))

-- behind the last of them
pub past_told : (all : List Told) (i : ℕ) → length all ≤ i → length (refusals all) ≤ i
past_told all i passed = rw (length_told all) passed
