use Rattle.std.proofs.Common.{rules, ◌≡◌}
use Rattle.pafteis_world.proofs.Deeds.{opened}
use Rattle.pafteis_world.proofs.driving.open.Goals as goal

pub returns-in-Ok-new-2-clause-opens : goal.returns-in-Ok-new-2-clause-opens
returns-in-Ok-new-2-clause-opens c =
    let same : c.of.result.world ≡ c.in-Ok-new.world = search rules in
    let named = c.in-Ok.ensures.accepted in
    opened _ _ _ _ c.in-Ok-new.world c.in-Ok.accepted c.of.ensures.live same
    c.in-Ok-new.ensures.set named.0 c.in-Ok-new.ensures.shows c.in-Ok-new.ensures.rules
