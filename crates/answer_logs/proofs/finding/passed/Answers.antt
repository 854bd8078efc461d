use Rattle.answer_logs.proofs.Single.{pass_listed}
use Rattle.answer_logs.proofs.finding.passed.Goals as goal

pub returns-in_ok-finding-in-Listed : goal.returns-in_ok-finding-in-Listed
returns-in_ok-finding-in-Listed c =
    pass_listed _ _ _ _ c.in-Listed.is c.in_ok-finding-in-Listed.ensures c.one.ensures.status
    c.one.ensures.findings
