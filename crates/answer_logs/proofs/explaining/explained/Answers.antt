use Rattle.answer_logs.proofs.Explained.{each_explained, first_explained}
use Rattle.answer_logs.proofs.explaining.explained.Goals as goal

pub returns-in-First : goal.returns-in-First
returns-in-First c =
    first_explained _ _ _ _ _ _ _ c.in-First.is c.in_ok-finding-in-First.ensures c.only.ensures

pub returns : goal.returns
returns c = each_explained _ _ _ _ _ _ c.in-Each.is c.explain_each.ensures
