use Rattle.answer_explain.proofs.rule.explain_lock_order.Goals as goal

pub returns : goal.returns
returns c = (c.as_str.result.now, c.in_ok-page.ensures)
