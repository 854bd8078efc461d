use Rattle.answer_logs.proofs.Single.{fault_found}
use Rattle.answer_logs.proofs.finding.fault_in.Goals as goal

pub returns : goal.returns
returns c =
    fault_found _ _ _ _ _ _ c.in_ok-finding.ensures c.one.ensures.status c.one.ensures.findings
