use Rattle.laws_slots.proofs.Fitting.Events.{all_fit}
use Rattle.laws_slots.proofs.events_fit.Goals as goal

pub returns : goal.returns
returns c = all_fit
