use Rattle.tell_audit.proofs.Rehearsing.{goes_on}
use Rattle.tell_audit.proofs.rehearsal.Rehearsal.apply.Goals as goal

pub returns : goal.returns
returns c =
    rw (← c.self.view_is)
    (goes_on _ _ _ _ _ _ c.apply-reply.ensures
    (rw c.use_step-step.ensures at c.in_ok-note.ensures.told))
