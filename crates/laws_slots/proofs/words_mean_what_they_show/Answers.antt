use Rattle.laws_slots.proofs.Meant.{words_mean_shown}
use Rattle.laws_slots.proofs.words_mean_what_they_show.Goals as goal

pub returns : goal.returns
returns c = words_mean_shown
