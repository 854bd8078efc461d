-- Each lock of a pair stands at its place among the nine.
use Rattle.laws_runs.proofs.Common.{ap, arith, inl, inr, sym, ◌∙◌, slice_get-get_or, List, Some, slice_get, ℕ, ◌<◌, ◌≡◌, ◌⊎◌, Set, IsSound, IsTypable, Guard}
use Rattle.std.specs.Prelude.{get_or}
use Rattle.laws_runs.specs.Order.{TakesUnder}
use Rattle.verifier_orders.specs.declared.ranking.NumberedEdge.{NumberedEdge}
use Rattle.verifier_orders.specs.Edges.{AreEdgesOf, HasEdge, number_of, place_in}
use Rattle.verifier_orders.specs.Names.{AreByPlace, guard_of}
use Rattle.verifier_orders.specs.Orders.{IsInPair}
use Rattle.verifier_orders.specs.Ranking.{AreRanked, IsWithin}
use Rattle.verifier_orders.proofs.Naming.{guarded}
use Rattle.verifier_orders.proofs.Ordering.{held_guard, taken_guard}
use Rattle.verifier_orders.proofs.Ways.{at_place}

-- a lock of the nine stands at its place
at_its_place : (edges : List NumberedEdge) (places : List ℕ) (locks : List Guard) (lock : Guard)
    → AreRanked edges places → AreByPlace places locks 9 → lock ≡ guard_of (number_of lock)
    → number_of lock < 9 → slice_get locks (place_in places lock) ≡ Some lock
at_its_place edges places locks lock ranked by is low =
    let place : ℕ = place_in places lock in
    let found : Guard = get_or locks place lock in
    let there : slice_get locks place ≡ Some found =
    slice_get-get_or locks place lock (omega (arith, ranked.few (number_of lock), by.long)) in
    let known : (n : ℕ) × (n < 9) × (found ≡ guard_of n) = by.known place found there in
    let at : get_or places known.0 0 ≡ get_or places (number_of lock) 0 =
    sym (ap (λ (m : ℕ). get_or places m 0) (guarded known.0))
    ∙ sym (ap (λ (g : Guard). place_in places g) known.2) ∙ by.each place found there in
    let same : known.0 ≡ number_of lock = ranked.once known.0 (number_of lock) known.1 low at in
    there ∙ ap (λ (g : Guard). Some g) (known.2 ∙ ap guard_of same ∙ sym is)

-- the locks of an edge are of the nine
edge_within : (set : Set) (driver : ℕ) (edges : List NumberedEdge) (held taken : Guard)
    → AreEdgesOf set driver edges → TakesUnder set driver held taken
    → (number_of held < 9) × (number_of taken < 9)
edge_within set driver edges held taken h u =
    let has : HasEdge edges held taken = h.all held taken u in
    let within : (has.1.held < 9) × (has.1.taken < 9) =
    at_place IsWithin edges has.0 has.1 h.within has.2 in
    let low : has.1.held < 9 = within.0 in
    let small : has.1.taken < 9 = within.1 in
    (omega (arith, has.3), omega (arith, has.4))

module _ (set : Set) (typable : IsTypable set) (sound : IsSound set) (driver : ℕ)
    (edges : List NumberedEdge) (places : List ℕ) (locks : List Guard)
    (h : AreEdgesOf set driver edges) (ranked : AreRanked edges places)
    (by : AreByPlace places locks 9)
  where
    stands_by : (lock other : Guard)
        → TakesUnder set driver lock other ⊎ TakesUnder set driver other lock
        → slice_get locks (place_in places lock) ≡ Some lock
    stands_by lock other (inl under) =
        at_its_place edges places locks lock ranked by
        (held_guard set typable sound driver lock other under)
        (edge_within set driver edges lock other h under).0
    stands_by lock other (inr under) =
        at_its_place edges places locks lock ranked by
        (taken_guard set typable sound driver other lock under)
        (edge_within set driver edges other lock h under).1

    pub stands : (lock : Guard) → IsInPair set driver lock
        → slice_get locks (place_in places lock) ≡ Some lock
    stands lock pair = stands_by lock pair.0 pair.1
