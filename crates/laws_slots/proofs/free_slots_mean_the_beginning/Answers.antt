use Rattle.laws_slots.proofs.Laws.{beginning_means}
use Rattle.laws_slots.proofs.free_slots_mean_the_beginning.Goals as goal

pub returns : goal.returns
returns c = beginning_means
