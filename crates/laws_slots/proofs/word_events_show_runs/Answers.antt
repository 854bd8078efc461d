use Rattle.laws_slots.proofs.WordsLaws.{word_events_show}
use Rattle.laws_slots.proofs.word_events_show_runs.Goals as goal

pub returns : goal.returns
returns c = word_events_show
