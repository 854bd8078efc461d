use Rattle.std.proofs.Common.{vec_len}
use Rattle.workers_script.proofs.serving.give_up_all.Given as goal

abbrev pub decreases-loop-taken : goal.decreases-loop-taken
decreases-loop-taken l = vec_len l.commands
