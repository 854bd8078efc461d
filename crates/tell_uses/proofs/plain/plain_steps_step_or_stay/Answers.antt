use Rattle.tell_uses.proofs.PlainSteps.{plain_stays}
use Rattle.tell_uses.proofs.plain.plain_steps_step_or_stay.Goals as goal

pub returns : goal.returns
returns c = plain_stays
