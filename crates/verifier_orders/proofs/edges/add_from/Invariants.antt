use Rattle.verifier_orders.specs.Edges.{AreAdded}
use Rattle.verifier_orders.proofs.edges.add_from.Given as goal

abbrev pub invariant-loop-held : goal.invariant-loop-held
invariant-loop-held l =
    AreAdded l.state l.taken l.routine l.at l.held l.initial.edges.items l.edges.items
