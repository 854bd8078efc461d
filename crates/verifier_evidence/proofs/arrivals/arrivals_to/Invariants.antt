use Rattle.verifier_evidence.specs.Table.{AreKnown}
use Rattle.verifier_evidence.proofs.arrivals.arrivals_to.Given as goal

abbrev pub invariant-loop-at : goal.invariant-loop-at
invariant-loop-at l = AreKnown l.subject l.at l.table.items
