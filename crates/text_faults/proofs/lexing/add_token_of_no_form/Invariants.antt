use Rattle.std.proofs.Common.{length}
use Rattle.text_faults.proofs.lexing.add_token_of_no_form.Given as goal

abbrev pub decreases-loop-token : goal.decreases-loop-token
decreases-loop-token l = length l.tokens
