use Rattle.laws_slots.proofs.WordsFitting.{words_fit_all}
use Rattle.laws_slots.proofs.word_events_fit.Goals as goal

pub returns : goal.returns
returns c = words_fit_all
