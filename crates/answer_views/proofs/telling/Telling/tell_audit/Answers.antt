use Rattle.answer_views.proofs.telling.Telling.tell_audit.Goals as goal

pub returns-clause-found : goal.returns-clause-found
returns-clause-found c = (c.in_ok-found.found, c.in_ok-found.ensures, c.any-amiss.ensures)
