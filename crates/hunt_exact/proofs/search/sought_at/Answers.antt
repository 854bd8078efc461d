use Rattle.hunt_exact.proofs.Ending.{sought_more}
use Rattle.hunt_exact.proofs.search.sought_at.Goals as goal

pub returns-in-Some : goal.returns-in-Some
returns-in-Some c = sought_more _ _ _ c.in-Some.is c.sought_in.ensures
