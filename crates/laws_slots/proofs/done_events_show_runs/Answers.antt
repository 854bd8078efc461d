use Rattle.laws_slots.proofs.Doing.{done_shows}
use Rattle.laws_slots.proofs.done_events_show_runs.Goals as goal

pub returns : goal.returns
returns c = done_shows
