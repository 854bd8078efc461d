use Rattle.answer_logs.proofs.Single.{explanation_told, verdict_told}
use Rattle.answer_logs.proofs.finding.told.Goals as goal

pub returns-in_ok-finding-in-Verdict : goal.returns-in_ok-finding-in-Verdict
returns-in_ok-finding-in-Verdict c =
    verdict_told _ _ _ _ _ _ _ c.in-Verdict.is c.in_ok-finding-in-Verdict.ensures c.only.ensures

pub returns-in-Explanation : goal.returns-in-Explanation
returns-in-Explanation c =
    explanation_told _ _ _ _ _ _ _ c.in-Explanation.is c.explained.ensures
