use Rattle.std.proofs.Common.{length}
use Rattle.answer_scenarios.proofs.failure.add_tokens.Given as goal

abbrev pub decreases-loop-token : goal.decreases-loop-token
decreases-loop-token l = length l.tokens
