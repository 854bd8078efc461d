use Rattle.tell_audit.proofs.Refusals.{reasons}
use Rattle.tell_audit.proofs.laws.refusals_have_reasons.Goals as goal

pub returns : goal.returns
returns c = reasons
