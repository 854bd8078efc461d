use Rattle.laws_slots.proofs.WordsLaws.{free_words_mean}
use Rattle.laws_slots.proofs.free_words_mean_the_beginning.Goals as goal

pub returns : goal.returns
returns c = free_words_mean
