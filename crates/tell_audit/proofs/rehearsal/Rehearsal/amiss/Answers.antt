use Rattle.tell_audit.proofs.Rehearsing.{finds_first, goes_on_past}
use Rattle.tell_audit.proofs.rehearsal.Rehearsal.amiss.Goals as goal

pub returns : goal.returns
returns c =
    rw (← c.self.view_is)
    (goes_on_past _ _ _ _ c.stops_with.ensures c.in_default.is
    (finds_first _ _ _ c.in_ok-found.ensures c.first_of.ensures))
