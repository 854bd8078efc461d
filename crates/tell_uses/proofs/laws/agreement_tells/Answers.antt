use Rattle.tell_uses.proofs.Agreement.{agreement}
use Rattle.tell_uses.proofs.laws.agreement_tells.Goals as goal

pub returns : goal.returns
returns c = agreement
