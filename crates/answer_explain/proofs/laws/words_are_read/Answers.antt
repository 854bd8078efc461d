use Rattle.answer_explain.proofs.Read.{words_read}
use Rattle.answer_explain.proofs.laws.words_are_read.Goals as goal

pub returns : goal.returns
returns c = words_read
