use Rattle.hunt_exact.proofs.Ending.{found_by}
use Rattle.hunt_exact.proofs.search.found.Goals as goal

pub returns : goal.returns
returns c =
    found_by _ _ _ _ _ _ _ c.in-Some.ensures.kept c.in_ok-before.ensures c.in_ok-find.ensures
