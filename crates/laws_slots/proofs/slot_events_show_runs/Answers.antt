use Rattle.laws_slots.proofs.Laws.{events_show}
use Rattle.laws_slots.proofs.slot_events_show_runs.Goals as goal

pub returns : goal.returns
returns c = events_show
