use Rattle.std.proofs.Common.{◌≡◌}
use Rattle.tests_core.proofs.served.filled.Given as goal

abbrev pub invariant-loop-command : goal.invariant-loop-command
invariant-loop-command g l = l.submitter.queue ≡ l.intake
