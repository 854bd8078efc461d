use Rattle.std.specs.Prelude.{◌≡◌}
use Rattle.model.specs.Set.{member}
use Rattle.verifier.specs.Pass.{progress}
use Rattle.verifier.proofs.routine.check_over.Given as goal

abbrev pub invariant-loop-at : goal.invariant-loop-at
invariant-loop-at l = l.pass ≡ progress (member l.set l.driver l.number l.routine) l.at
