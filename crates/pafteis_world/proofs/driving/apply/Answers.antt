use Rattle.std.proofs.Common.{rules, ◌≡◌, Some}
use Rattle.pafteis_world.specs.Driven.{Applied, world_in}
use Rattle.pafteis_world.proofs.Deeds.{does}
use Rattle.pafteis_world.proofs.driving.apply.Goals as goal

pub returns : goal.returns
returns c =
    let at : world_in c.args.handle.now ≡ Some c.in_ok-world.world.value = search rules in
    let e = rw c.deref_mut.ensures.value at c.apply-reply.ensures in
    does (Applied c.args.event.now) _ _ _ c.in_ok-world.world.value c.apply-reply.new.self
    c.apply-reply.result at c.of.ensures.live c.of.ensures.world
    (record { applies = e.applies; rules = e.rules; goes_on = e.goes_on; threads = e.steps })
