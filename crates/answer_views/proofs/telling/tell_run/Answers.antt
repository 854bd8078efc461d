use Rattle.answer_views.proofs.telling.tell_run.Goals as goal

pub tell_all-requires-clause-fresh : goal.tell_all-requires-clause-fresh
tell_all-requires-clause-fresh c = c.in_ok-telling.ensures.begun c.args.machine.now.set
