use Rattle.std.proofs.Common.{refl}
use Rattle.hunt_exact.proofs.Ending.{all_ended, limit_ended}
use Rattle.hunt_exact.proofs.search.standing_at.Goals as goal

pub returns-in_default : goal.returns-in_default
returns-in_default c =
    λ scope counted.
    all_ended _ _ _ _ c.len-worlds.ensures (c.path.ensures.past c.in_default.is) counted

pub returns : goal.returns
returns c =
    λ scope counted.
    limit_ended _ _ _ _ _ _ c.len-worlds.ensures c.in-Some.ensures.kept refl counted
