use Rattle.hunt_exact.proofs.Coming.{is_there_by}
use Rattle.hunt_exact.proofs.visiting.is_there.Goals as goal

pub returns : goal.returns
returns c =
    is_there_by _ _ _ _ _ _ c.in-Some.ensures.kept c.in_ok-leads.ensures
