use Rattle.tell_json.proofs.Noting.{noted_by}
use Rattle.tell_json.proofs.telling.Telling.tell.Goals as goal

pub returns-clause-noted : goal.returns-clause-noted
returns-clause-noted c =
    noted_by _ _ _ _ _ _ c.apply-reply.ensures
    (rw c.use_step_of-step.ensures at c.in_ok-note.ensures.told)
