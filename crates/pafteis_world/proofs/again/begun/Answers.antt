use Rattle.std.proofs.Common.{rules, ◌≡◌}
use Rattle.pafteis_world.proofs.Deeds.{begun}
use Rattle.pafteis_world.proofs.again.begun.Goals as goal

pub returns-in-Ok-new-2 : goal.returns-in-Ok-new-2
returns-in-Ok-new-2 c =
    let same : c.in-Ok-new-2.boxed.value ≡ c.in-Ok-new.world = search rules in
    begun _ _ _ _ c.in-Ok-new.world _ c.in-Ok.ensures c.in-Ok-verify.ensures.accepted.0
    c.in-Ok-new.ensures.set c.in-Ok-new.ensures.shows c.in-Ok-new.ensures.rules same
