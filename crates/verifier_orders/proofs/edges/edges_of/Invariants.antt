use Rattle.verifier_orders.specs.Edges.{AreEdgesTo}
use Rattle.verifier_orders.proofs.edges.edges_of.Given as goal

abbrev pub invariant-loop-number : goal.invariant-loop-number
invariant-loop-number l = AreEdgesTo l.accepted l.driver l.number 0 l.edges.items
