use Rattle.std.proofs.Common.{length}
use Rattle.scenario_faults.proofs.known.packets_before.Given as goal

abbrev pub decreases-loop-raw : goal.decreases-loop-raw
decreases-loop-raw l = length l.left.left
