use Rattle.std.proofs.Common.{◌∙◌, refl}
use Rattle.hunt_exact.proofs.Ending.{all_ended, more_ended, visited}
use Rattle.hunt_exact.proofs.search.visit.Goals as goal

pub returns-in_default : goal.returns-in_default
returns-in_default c =
    λ counted.
    all_ended _ _ _ _ c.len-worlds.ensures (c.path.ensures.past c.in_default.is) counted

pub returns-then-reached : goal.returns-then-reached
returns-then-reached c =
    λ counted.
    more_ended _ _ _ _ _ _ _ c.len-worlds.ensures c.in-Some.ensures.kept refl
    (c.is_reached-reached.ensures c.if-reached.true) counted

pub returns : goal.returns
returns c =
    visited _ _ _ _ _ _ _ _ _ c.in-Some.ensures.kept
    (c.as_slice.ensures.value ∙ c.in_ok-front.ensures) c.in_ok-found.ensures
    c.ended_by-ended.ensures
