use Rattle.hunt_exact.proofs.Ending.{exact_of}
use Rattle.hunt_exact.proofs.search.hunt_exactly.Goals as goal

pub returns : goal.returns
returns g c = exact_of _ _ _ _ c.in_ok-scope.ensures c.in_ok-answer.ensures
