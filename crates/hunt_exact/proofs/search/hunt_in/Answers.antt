use Rattle.hunt_exact.proofs.Ending.{begun_and_ended}
use Rattle.hunt_exact.proofs.search.hunt_in.Goals as goal

pub returns : goal.returns
returns g c = begun_and_ended _ _ _ _ c.in_ok-seen.ensures c.in_ok-answer.ensures
