use Rattle.hunt_exact.proofs.Coming.{followed_shut}
use Rattle.hunt_exact.proofs.visiting.follow.Goals as goal

pub returns : goal.returns
returns c = followed_shut _ _ _ _ _ _ _ c.packets.ensures c.is_open-open.ensures c.if-open.false
