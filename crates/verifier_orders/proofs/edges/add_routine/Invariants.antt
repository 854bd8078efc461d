use Rattle.verifier_orders.specs.Edges.{AreEdgesTo}
use Rattle.verifier_orders.proofs.edges.add_routine.Given as goal

abbrev pub invariant-loop-at : goal.invariant-loop-at
invariant-loop-at l = AreEdgesTo l.set l.driver l.number l.at l.edges.items
