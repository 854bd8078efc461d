use Rattle.answer_views.proofs.telling.Telling.tell_found.Goals as goal

pub returns : goal.returns
returns c = (_, c.in_ok-add_audit.ensures)
