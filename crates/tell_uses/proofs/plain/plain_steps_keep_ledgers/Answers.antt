use Rattle.tell_uses.proofs.PlainSteps.{plain_keeps}
use Rattle.tell_uses.proofs.plain.plain_steps_keep_ledgers.Goals as goal

pub returns : goal.returns
returns c = plain_keeps
