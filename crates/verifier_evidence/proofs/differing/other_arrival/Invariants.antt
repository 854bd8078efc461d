use Rattle.verifier_evidence.proofs.Others.{NoOther}
use Rattle.verifier_evidence.proofs.differing.other_arrival.Given as goal

abbrev pub invariant-loop-from : goal.invariant-loop-from
invariant-loop-from l = NoOther l.arrivals.subject l.arrivals.table.items l.at l.state l.from
