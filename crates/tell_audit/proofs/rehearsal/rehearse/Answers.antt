use Rattle.tell_audit.proofs.Rehearsing.{ends_so}
use Rattle.tell_audit.proofs.rehearsal.rehearse.Goals as goal

pub returns-clause-replies : goal.returns-clause-replies
returns-clause-replies c = c.in_ok-reply.ensures.replies _ _ _ c.in_ok-run.ensures

pub returns-clause-amiss : goal.returns-clause-amiss
returns-clause-amiss c =
    ends_so _ _ _ _ _ _ _ _ c.in_ok-run.ensures c.in_ok-reply.ensures c.in_ok-amiss.ensures

pub returns-clause-shows : goal.returns-clause-shows
returns-clause-shows c = c.in_ok-reply.ensures.shows _ _ _ c.in_ok-run.ensures
