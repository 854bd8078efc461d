use Rattle.laws_slots.proofs.Views.{tell_as_slots}
use Rattle.laws_slots.proofs.words_tell_as_slots.Goals as goal

pub returns : goal.returns
returns c = tell_as_slots
