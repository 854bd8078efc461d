use Rattle.std.proofs.Common.{rules, ◌≡◌, Some, refl}
use Rattle.pafteis_world.specs.Driven.{ToldNumber, world_in}
use Rattle.pafteis_world.proofs.Deeds.{does}
use Rattle.pafteis_world.proofs.reading.number.Goals as goal

pub returns : goal.returns
returns c =
    let at : world_in c.args.handle.now ≡ Some c.in_ok-world.world.value = search rules in
    let e = rw c.deref.ensures at c.number-told.ensures.number in
    let s = rw c.deref.ensures at c.number-told.ensures.slots in
    does (ToldNumber c.args.slot) _ _ _ c.in_ok-world.world.value
    c.in_ok-world.world.value c.number-told.result at c.of.ensures.live c.of.ensures.world
    (record { same = refl; is = e; slots = s })
