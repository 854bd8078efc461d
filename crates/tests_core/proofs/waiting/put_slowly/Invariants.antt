use Rattle.std.proofs.Common.{◌≡◌}
use Rattle.tests_core.proofs.waiting.put_slowly.Given as goal

abbrev pub invariant-loop : goal.invariant-loop
invariant-loop g l = l.submitter.queue ≡ l.intake
