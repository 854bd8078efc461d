use Rattle.std.specs.Prelude.{ℕ, ◌<◌, get_or}
use Rattle.verifier_orders.specs.declared.ranking.NumberedEdge.{NumberedEdge}
use Rattle.verifier_orders.specs.Cycle.{LeadsOn}
use Rattle.verifier_orders.proofs.cycle.edge_on.Given as goal

abbrev pub invariant-loop-edge : goal.invariant-loop-edge
invariant-loop-edge l =
    (k : ℕ) (d : NumberedEdge) → k < l.edge-index → LeadsOn l.ahead l.lock (get_or l.edges k d) → ⊥
