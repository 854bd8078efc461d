use Rattle.laws_slots.proofs.Told.{words_tell}
use Rattle.laws_slots.proofs.words_tell_registers.Goals as goal

pub returns : goal.returns
returns c = words_tell
