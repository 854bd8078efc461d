use Rattle.laws_slots.proofs.Shown.{slots_show}
use Rattle.laws_slots.proofs.slots_show_what_they_mean.Goals as goal

pub returns : goal.returns
returns c = slots_show
