use Rattle.verifier_orders.specs.Names.{AreByPlace}
use Rattle.verifier_orders.proofs.names.locks_by_place.Given as goal

abbrev pub invariant-loop-place : goal.invariant-loop-place
invariant-loop-place l = AreByPlace l.places l.locks.items l.place
