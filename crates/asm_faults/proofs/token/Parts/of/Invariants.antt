use Rattle.std.proofs.Common.{length}
use Rattle.asm_faults.proofs.token.Parts.of.Given as goal

abbrev pub decreases-loop-token : goal.decreases-loop-token
decreases-loop-token l = length l.tokens
