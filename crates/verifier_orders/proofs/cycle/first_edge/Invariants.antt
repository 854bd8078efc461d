use Rattle.std.specs.Prelude.{ℕ, ◌<◌, get_or}
use Rattle.verifier_orders.specs.declared.ranking.NumberedEdge.{NumberedEdge}
use Rattle.verifier_orders.specs.Cycle.{Returns}
use Rattle.verifier_orders.proofs.cycle.first_edge.Given as goal

abbrev pub invariant-loop-edge : goal.invariant-loop-edge
invariant-loop-edge l =
    (k : ℕ) (d : NumberedEdge) → k < l.edge-index → Returns l.edges l.more (get_or l.edges k d) → ⊥
