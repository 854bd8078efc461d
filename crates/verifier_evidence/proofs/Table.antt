-- How the table of the first arrivals grows.
use Rattle.std.proofs.Common.{◌≡◌, ◌∙◌, ℕ, ◌<◌, ◌⊎◌, inl, inr, List, length, Option, None, Some, slice_set, slice_index_or, refl, sym, subst}
use Rattle.std.specs.Prelude.{slice_get}
use Rattle.std.proofs.lemmas.Bool.{cases_eq}
use Rattle.std.proofs.lemmas.Option.{slice_get-get_or, slice_get_within}
use Rattle.std.proofs.lemmas.List.{length-set}
use Rattle.model.specs.declared.abs.Abs.{Abs}
use Rattle.model.specs.Set.{Member}
use Rattle.verifier_evidence.specs.declared.arrivals.Arrival.{Arrival}
use Rattle.verifier_evidence.specs.Table.{HasArrival, noted_by, noted, ComesFrom, IsReached, IsTraced}
use Rattle.verifier_evidence.proofs.Lists.{set_same, set_other}

-- a table keeps what another one has
pub record IsGrown (old new : List (Option Arrival)) : Type 0 where
  pub long : length new ≡ length old
  pub kept : (p : ℕ) (a : Arrival) → slice_get old p ≡ Some (Some a)
      → slice_get new p ≡ Some (Some a)

pub grown_none : (table : List (Option Arrival)) → IsGrown table table
grown_none table = record { long = refl; kept = λ p a there. there }

pub grown_twice : (old mid new : List (Option Arrival)) → IsGrown old mid → IsGrown mid new
    → IsGrown old new
grown_twice old mid new one two = record {
  long = two.long ∙ one.long;
  kept = λ p a there. two.kept p a (one.kept p a there);
}

kept_set : (table : List (Option Arrival)) (to : ℕ) (a : Arrival) → slice_get table to ≡ Some None
    → (p : ℕ) (b : Arrival) → slice_get table p ≡ Some (Some b) → (p ≡ to) ⊎ (p ≡ to → ⊥)
    → slice_get (slice_set table to (Some a)) p ≡ Some (Some b)
kept_set table to a blank p b there (inl same) =
    let here : slice_get table to ≡ Some (Some b) = subst (λ (q : ℕ). slice_get table q
    ≡ Some (Some b)) same there in
    cc
kept_set table to a blank p b there (inr differs) = set_other table to p (Some a) differs ∙ there

grown_by : (entry : Option (Option Arrival)) (table : List (Option Arrival)) (to : ℕ) (a : Arrival)
    → slice_get table to ≡ entry → IsGrown table (noted_by entry table to a)
grown_by None table to a is = grown_none table
grown_by (Some None) table to a is = record {
  long = length-set table to (Some a);
  kept = λ p b there. kept_set table to a is p b there (cases_eq p to);
}
grown_by (Some (Some first)) table to a is = grown_none table

pub noted_grown : (table : List (Option Arrival)) (to : ℕ) (a : Arrival)
    → IsGrown table (noted table to a)
noted_grown table to a = grown_by (slice_get table to) table to a refl

-- an arrival is there then, if the position is one of the routine
there_by : (entry : Option (Option Arrival)) (table : List (Option Arrival)) (to : ℕ) (a : Arrival)
    → slice_get table to ≡ entry → to < length table → HasArrival (noted_by entry table to a) to
there_by None table to a is within =
    let past : slice_get table to ≡ Some (slice_index_or table to None) =
    slice_get-get_or table to None within in cc
there_by (Some None) table to a is within = (a, set_same table to (Some a) within)
there_by (Some (Some first)) table to a is within = (first, is)

pub noted_there : (table : List (Option Arrival)) (to : ℕ) (a : Arrival) → to < length table
    → HasArrival (noted table to a) to
noted_there table to a within = there_by (slice_get table to) table to a refl within

-- what is there was there before, or is the arrival noted
new_set : (table : List (Option Arrival)) (to : ℕ) (a : Arrival) (p : ℕ) (b : Arrival)
    → to < length table
    → slice_get (slice_set table to (Some a)) p ≡ Some (Some b) → (p ≡ to) ⊎ (p ≡ to → ⊥)
    → (slice_get table p ≡ Some (Some b)) ⊎ ((p ≡ to) × (b ≡ a))
new_set table to a p b within there (inl same) =
    let here : slice_get (slice_set table to (Some a)) to ≡ Some (Some b) =
    subst (λ (q : ℕ). slice_get (slice_set table to (Some a)) q ≡ Some (Some b)) same there in
    let is : slice_get (slice_set table to (Some a)) to ≡ Some (Some a) =
    set_same table to (Some a) within in
    let alike : b ≡ a = cc in
    inr (same, alike)
new_set table to a p b within there (inr differs) =
    inl (sym (set_other table to p (Some a) differs) ∙ there)

new_by : (entry : Option (Option Arrival)) (table : List (Option Arrival)) (to : ℕ) (a : Arrival)
    (p : ℕ) (b : Arrival) → slice_get table to ≡ entry
    → slice_get (noted_by entry table to a) p ≡ Some (Some b)
    → (slice_get table p ≡ Some (Some b)) ⊎ ((p ≡ to) × (b ≡ a))
new_by None table to a p b is there = inl there
new_by (Some None) table to a p b is there =
    new_set table to a p b (slice_get_within table to None is) there (cases_eq p to)
new_by (Some (Some first)) table to a p b is there = inl there

-- arrivals are what they were in a table that has grown
comes_kept : (m : Member) (old new : List (Option Arrival)) → IsGrown old new → (p : ℕ) (s : Abs)
    (from : Option ℕ) → ComesFrom m old p s from → ComesFrom m new p s from
comes_kept m old new grown p s None comes = comes
comes_kept m old new grown p s (Some q) comes = record {
  below = comes.below;
  before = comes.before;
  there = grown.kept q comes.before comes.there;
  leads = comes.leads;
}

reached_kept : (m : Member) (old new : List (Option Arrival)) → IsGrown old new → (p : ℕ)
    (a : Arrival) → IsReached m old p a → IsReached m new p a
reached_kept m old new grown p a reached = record {
  comes = comes_kept m old new grown p a.state a.from reached.comes;
  arrives = reached.arrives;
}

traced_split : (m : Member) (table : List (Option Arrival)) (to : ℕ) (a : Arrival)
    → IsTraced m table → IsReached m table to a → (p : ℕ) (b : Arrival)
    → (slice_get table p ≡ Some (Some b)) ⊎ ((p ≡ to) × (b ≡ a)) → IsReached m table p b
traced_split m table to a traced reached p b (inl there) = traced p b there
traced_split m table to a traced reached p b (inr same) =
    subst (λ (q : ℕ). IsReached m table q b) (sym same.0)
    (subst (λ (c : Arrival). IsReached m table to c) (sym same.1) reached)

pub noted_traced : (m : Member) (table : List (Option Arrival)) (to : ℕ) (a : Arrival)
    → IsTraced m table → IsReached m table to a → IsTraced m (noted table to a)
noted_traced m table to a traced reached p b there =
    reached_kept m table (noted table to a) (noted_grown table to a) p b
    (traced_split m table to a traced reached p b
    (new_by (slice_get table to) table to a p b refl there))
