use Rattle.hunt_exact.proofs.Coming.{leads_same}
use Rattle.hunt_exact.proofs.machines.leads_to.Goals as goal

pub returns : goal.returns
returns c =
    leads_same _ _ _ _ _ _ c.in_ok-there.ensures.set c.in_ok-there.ensures.shows
    c.stopped-halted.ensures c.if-halted.false c.same_world-same.ensures
