use Rattle.std.proofs.Common.{vec_len}
use Rattle.tests_core.proofs.served.Account.of.Given as goal

abbrev pub decreases-loop-taken : goal.decreases-loop-taken
decreases-loop-taken l = vec_len l.held
