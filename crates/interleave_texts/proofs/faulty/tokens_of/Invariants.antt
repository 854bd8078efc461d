use Rattle.std.proofs.Common.{length}
use Rattle.interleave_texts.proofs.faulty.tokens_of.Given as goal

abbrev pub decreases-loop-token : goal.decreases-loop-token
decreases-loop-token l = length l.tokens
