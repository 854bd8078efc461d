-- Edges by name tell which lock is taken under which.
use Rattle.laws_runs.proofs.Common.{ap, refl, sym, zero, ◌∙◌, List, Some, [], slice_get, suc, ℕ, ◌∷◌, ◌≡◌, Set, IsSound, IsTypable, Guard}
use Rattle.std.specs.Prelude.{get_or}
use Rattle.laws_runs.specs.Order.{TakesUnder}
use Rattle.verifier_orders.specs.declared.names.Edge.{Edge}
use Rattle.verifier_orders.specs.declared.ranking.NumberedEdge.{NumberedEdge}
use Rattle.verifier_orders.specs.Edges.{AreEdgesOf, HasEdge, number_of}
use Rattle.verifier_orders.specs.Names.{all_named, guard_of, named}
use Rattle.verifier_orders.specs.Orders.{ArePairs, HasPair, IsEdge}
use Rattle.verifier_orders.proofs.Naming.{guarded, named_each, named_edge}
use Rattle.verifier_orders.proofs.Ordering.{held_guard, taken_guard}

named_at : (edges : List NumberedEdge) (k : ℕ) (e : NumberedEdge) → slice_get edges k ≡ Some e
    → slice_get (all_named edges) k ≡ Some (named e)
named_at [] k e there = cc
named_at (f ∷ edges) zero e there = ap (λ (x : NumberedEdge). Some (named x))
    (let same : f ≡ e = cc in same)
named_at (f ∷ edges) (suc k) e there = named_at edges k e there

-- the edge by number of one by name
record Named (edges : List NumberedEdge) (k : ℕ) (e : Edge) : Type 0 where
  edge : NumberedEdge
  there : slice_get edges k ≡ Some edge
  is : named edge ≡ e

named_from : (edges : List NumberedEdge) (k : ℕ) (e : Edge)
    → slice_get (all_named edges) k ≡ Some e → Named edges k e
named_from [] k e there = cc
named_from (f ∷ edges) zero e there =
    record { edge = f; there = refl; is = cc }
named_from (f ∷ edges) (suc k) e there =
    let rest : Named edges k e = named_from edges k e there in
    record { edge = rest.edge; there = rest.there; is = rest.is }

same_number : (m n : ℕ) (g h : Guard) → guard_of m ≡ g → guard_of n ≡ h → g ≡ h → m ≡ n
same_number m n g h first second same =
    sym (guarded m) ∙ ap number_of (first ∙ same ∙ sym second) ∙ guarded n

module _ (set : Set) (typable : IsTypable set) (sound : IsSound set) (driver : ℕ) where
  pair_named : (edges : List NumberedEdge) (held taken : Guard) → TakesUnder set driver held taken
      → HasEdge edges held taken → HasPair (all_named edges) held taken
  pair_named edges held taken u has = (
    has.0,
    named has.1,
    named_at edges has.0 has.1 has.2,
    ap guard_of has.3 ∙ sym (held_guard set typable sound driver held taken u),
    ap guard_of has.4 ∙ sym (taken_guard set typable sound driver held taken u),
  )

  pub pairs_told : (edges : List NumberedEdge) → AreEdgesOf set driver edges
      → ArePairs set driver (all_named edges)
  pairs_told edges h = record {
    each = named_each (IsEdge set driver) edges
        (λ k d l. named_edge set typable sound driver (get_or edges k d) (h.each k d l));
    all = λ held taken u. pair_named edges held taken u (h.all held taken u);
    once = λ j k e f one other held taken.
        (let first : Named edges j e = named_from edges j e one in
        let second : Named edges k f = named_from edges k f other in
        h.once j k first.edge second.edge first.there second.there
        (same_number first.edge.held second.edge.held e.held f.held
        (ap (λ (x : Edge). x.held) first.is) (ap (λ (x : Edge). x.held) second.is) held)
        (same_number first.edge.taken second.edge.taken e.taken f.taken
        (ap (λ (x : Edge). x.taken) first.is) (ap (λ (x : Edge). x.taken) second.is) taken));
  }
