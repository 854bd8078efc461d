use Rattle.laws_slots.proofs.WordsShown.{words_show}
use Rattle.laws_slots.proofs.words_show_what_they_mean.Goals as goal

pub returns : goal.returns
returns c = words_show
