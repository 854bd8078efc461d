use Rattle.hunt_exact.proofs.Coming.{expanded}
use Rattle.hunt_exact.proofs.visiting.expand.Goals as goal

pub returns : goal.returns
returns c =
    expanded _ _ _ _ _ _ c.in_ok-machine.ensures.set c.in_ok-machine.ensures.shows
    c.in_ok-found.ensures
