use Rattle.answer_explain.proofs.InJson.{of_each, of_first}
use Rattle.answer_explain.proofs.in_json.add_faults.Goals as goal

pub returns-in-First : goal.returns-in-First
returns-in-First c = of_first _ _ _ _ _ _ _ _ c.in-First.is c.add_refusal.ensures

pub returns : goal.returns
returns c = of_each _ _ _ _ _ _ _ _ c.in-Each.is c.add_each.ensures
