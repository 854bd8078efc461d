use Rattle.std.proofs.Common.{length}
use Rattle.asm_faults.proofs.names.names_from.Given as goal

abbrev pub decreases-loop-raw : goal.decreases-loop-raw
decreases-loop-raw l = length l.left
