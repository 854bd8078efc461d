use Rattle.std.proofs.Common.{length}
use Rattle.mend_texts.proofs.wording.add_words.Given as goal

abbrev pub decreases-loop-word : goal.decreases-loop-word
decreases-loop-word l = length l.words
