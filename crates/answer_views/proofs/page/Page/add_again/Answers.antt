use Rattle.answer_views.proofs.page.Page.add_again.Goals as goal

pub returns-clause-told : goal.returns-clause-told
returns-clause-told c = rw c.begin_line-head.ensures at c.end_line.ensures.told
