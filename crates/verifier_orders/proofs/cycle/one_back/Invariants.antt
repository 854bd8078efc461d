use Rattle.verifier_orders.proofs.Ways.{AreBackTo}
use Rattle.verifier_orders.proofs.cycle.one_back.Given as goal

abbrev pub invariant-loop-lock : goal.invariant-loop-lock
invariant-loop-lock l = AreBackTo l.edges l.ahead l.behind l.lock
