use Rattle.std.proofs.Common.{◌≡◌}
use Rattle.tests_core.proofs.served.put.Given as goal

abbrev pub invariant-loop-turn : goal.invariant-loop-turn
invariant-loop-turn g l = l.submitter.queue ≡ l.intake
