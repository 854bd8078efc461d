use Rattle.tell_uses.proofs.Agreement.{no_disagreement}
use Rattle.tell_uses.proofs.laws.accepted_runs_show_no_disagreement.Goals as goal

pub returns : goal.returns
returns c = no_disagreement c.pending_returns_agree.ensures
