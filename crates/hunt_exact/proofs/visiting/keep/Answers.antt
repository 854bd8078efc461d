use Rattle.hunt_exact.proofs.Coming.{kept_grown, kept_met}
use Rattle.hunt_exact.proofs.visiting.keep.Goals as goal

pub returns-then-met : goal.returns-then-met
returns-then-met c =
    kept_met _ _ _ _ _ _ _ c.in_ok-last.ensures c.in_ok-met.ensures c.if-met.true

pub returns : goal.returns
returns c =
    kept_grown _ _ _ _ _ _ _ _ c.in_ok-last.ensures c.in_ok-grown.ensures c.in_ok-add.ensures
