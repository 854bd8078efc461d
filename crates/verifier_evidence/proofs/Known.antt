-- What the way to a place knows, at its start and one position on.
use Rattle.std.proofs.Common.{◌≡◌, ◌∙◌, ℕ, ◌<◌, ◌≤◌, ◌+◌, ◌⊎◌, inl, inr, List, [], ◌∷◌, length, Option, None, Some, replicate, slice_index_or, refl, arith, sym, subst}
use Rattle.std.specs.Prelude.{slice_get}
use Rattle.std.proofs.lemmas.Bool.{cases_lt}
use Rattle.std.proofs.lemmas.Option.{get_or_from_slice_get, slice_get_within}
use Rattle.std.proofs.lemmas.List.{get_or-replicate, length-replicate}
use Rattle.model.specs.declared.abs.Abs.{Abs}
use Rattle.model.specs.LocalRule.{entry_state}
use Rattle.model.specs.Paths.{Along, Arrives, Leads}
use Rattle.model.specs.Set.{Member}
use Rattle.model.specs.Typable.{IsFineAt}
use Rattle.verifier.specs.Pass.{FromBelow, IsHandedOn}
use Rattle.verifier_evidence.specs.declared.arrivals.Arrival.{Arrival}
use Rattle.verifier_evidence.specs.Table.{HasArrival, noted, passed_on, AreKnown, IsCoveredAt, IsReached, IsTraced}
use Rattle.verifier_evidence.proofs.Forward.{leads_up}
use Rattle.verifier_evidence.proofs.Table.{noted_grown, noted_there, noted_traced}
use Rattle.verifier_evidence.proofs.Passing.{IsPassing, passing}

-- what arrives at a position comes from below it
below_along : (m : Member) (p : ℕ) (s : Abs) (path : List ℕ) → Along m (p ∷ path) s
    → FromBelow m p p s
below_along m p s [] h = inl h
below_along m p s (q ∷ path) h =
    inr (record {
      from = q;
      below = leads_up m q h.0 p s h.2;
      before = h.0;
      arrives = (path, h.1);
      leads = h.2;
    })

pub below_of_arrives : (m : Member) (p : ℕ) (s : Abs) → Arrives m p s → FromBelow m p p s
below_of_arrives m p s h = below_along m p s h.0 h.1

-- at a fine position the arrival that is noted has the one state that arrives
pub noted_alone : (m : Member) (at : ℕ) (a : Arrival) (s : Abs) → IsFineAt m at
    → Arrives m at a.state → Arrives m at s → s ≡ a.state
noted_alone m at a s fine noted arrives =
    fine.arrival.alone s arrives ∙ sym (fine.arrival.alone a.state noted)

-- one position on
covered_on : (m : Member) (at : ℕ) (a : Arrival) (old new : List (Option Arrival))
    → AreKnown m at old → IsFineAt m at → slice_get old at ≡ Some (Some a)
    → IsPassing m at a old new → (p : ℕ) (s : Abs) → p < length m.routine.code
    → (h : IsHandedOn m (at + 1) p s) → (h.from < at) ⊎ (at ≤ h.from) → HasArrival new p
covered_on m at a old new known fine there passes p s within h (inl lower) =
    let has : HasArrival old p =
    known.covered p s within (inr (record {
      from = h.from;
      below = lower;
      before = h.before;
      arrives = h.arrives;
      leads = h.leads;
    }))
    in
    (has.0, passes.grown.kept p has.0 has.1)
covered_on m at a old new known fine there passes p s within h (inr least) =
    let low : h.from < at + 1 = h.below in
    let same : h.from ≡ at = omega arith in
    let arrives : Arrives m at h.before = subst (λ (q : ℕ). Arrives m q h.before) same h.arrives in
    let leads : Leads m at h.before p s = subst (λ (q : ℕ). Leads m q h.before p s) same h.leads in
    let state : h.before ≡ a.state =
    noted_alone m at a h.before fine (known.traced at a there).arrives arrives in
    let long : length old ≡ length m.routine.code = known.long in
    passes.there p s (subst (λ (before : Abs). Leads m at before p s) state leads) (omega arith)

covered_more : (m : Member) (at : ℕ) (a : Arrival) (old new : List (Option Arrival))
    → AreKnown m at old → IsFineAt m at → slice_get old at ≡ Some (Some a)
    → IsPassing m at a old new → (p : ℕ) (s : Abs) → p < length m.routine.code
    → FromBelow m (at + 1) p s → HasArrival new p
covered_more m at a old new known fine there passes p s within (inl h) =
    let has : HasArrival old p = known.covered p s within (inl h) in
    (has.0, passes.grown.kept p has.0 has.1)
covered_more m at a old new known fine there passes p s within (inr h) =
    covered_on m at a old new known fine there passes p s within h (cases_lt h.from at)

pub known_more : (m : Member) (at : ℕ) (table : List (Option Arrival)) → AreKnown m at table
    → IsFineAt m at → at < length m.routine.code → AreKnown m (at + 1) (passed_on m at table)
known_more m at table known fine within =
    let has : HasArrival table at =
    known.covered at fine.state within
    (below_of_arrives m at fine.state fine.arrival.arrives) in
    let passes : IsPassing m at has.0 table (passed_on m at table) =
    passing m at has.0 table known.traced has.1 fine.formed in
    record {
      long = passes.grown.long ∙ known.long;
      traced = passes.traced;
      covered = covered_more m at has.0 table (passed_on m at table) known fine has.1 passes;
    }

-- at the start
abbrev blank_entry : Option Arrival
blank_entry = None

blank_at : (n p : ℕ) (a : Arrival)
    → slice_get (replicate n blank_entry) p ≡ Some (Some a) → ⊥
blank_at n p a there =
    let inside : p < length (replicate n blank_entry) =
    slice_get_within (replicate n blank_entry) p (Some a) there in
    let long : length (replicate n blank_entry) ≡ n = length-replicate n blank_entry in
    let low : p < n = omega arith in
    let read : slice_index_or (replicate n blank_entry) p None ≡ Some a =
    get_or_from_slice_get (replicate n blank_entry) p (Some a) None there in
    let blank : slice_index_or (replicate n blank_entry) p None ≡ None =
    get_or-replicate n p blank_entry blank_entry low in
    cc

blank_traced : (m : Member) (n : ℕ) → IsTraced m (replicate n None)
blank_traced m n p a there = absurd (blank_at n p a there)

abbrev pub at_entry : Abs → Arrival
at_entry s = record { from = None; state = s }

covered_some : (m : Member) (table : List (Option Arrival)) → HasArrival table 0 → (p : ℕ) (s : Abs)
    → p < length m.routine.code → FromBelow m 0 p s → HasArrival table p
covered_some m table has p s within (inl h) =
    subst (λ (q : ℕ). HasArrival table q) (sym h.0) has
covered_some m table has p s within (inr h) =
    let low : h.from < 0 = h.below in absurd (omega arith)

pub known_entered : (m : Member) (s : Abs) → entry_state m ≡ Some s → 0 < length m.routine.code
    → AreKnown m 0 (noted (replicate (length m.routine.code) None) 0 (at_entry s))
known_entered m s entered within =
    let blank : List (Option Arrival) = replicate (length m.routine.code) None in
    let long : length blank ≡ length m.routine.code =
    length-replicate (length m.routine.code) None in
    let reached : IsReached m blank 0 (at_entry s) =
    record { comes = (refl, entered); arrives = ([], (refl, entered)) } in
    record {
      long = (noted_grown blank 0 (at_entry s)).long ∙ long;
      traced = noted_traced m blank 0 (at_entry s) (blank_traced m (length m.routine.code)) reached;
      covered = covered_some m (noted blank 0 (at_entry s))
          (noted_there blank 0 (at_entry s) (omega arith));
    }

-- what arrives up to the place is noted
below_more : (m : Member) (low high p : ℕ) (s : Abs) → low ≤ high → FromBelow m low p s
    → FromBelow m high p s
below_more m low high p s least (inl h) = inl h
below_more m low high p s least (inr h) =
    inr (record {
      from = h.from;
      below = (let lower : h.from < low = h.below in omega arith);
      before = h.before;
      arrives = h.arrives;
      leads = h.leads;
    })

pub known_covered : (m : Member) (place p : ℕ) (table : List (Option Arrival))
    → AreKnown m place table → p ≤ place → p < length m.routine.code → IsCoveredAt m table p
known_covered m place p table known low within = λ s arrives.
    known.covered p s within (below_more m p place p s low (below_of_arrives m p s arrives))
