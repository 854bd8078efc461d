use Rattle.std.proofs.Common.{rules, ◌≡◌, Some, refl}
use Rattle.pafteis_world.specs.Driven.{Told, world_in}
use Rattle.pafteis_world.specs.Read.{request_at}
use Rattle.pafteis_world.proofs.Deeds.{does}
use Rattle.pafteis_world.proofs.reading.request.Goals as goal

pub returns : goal.returns
returns c =
    let at : world_in c.args.handle.now ≡ Some c.in_ok-world.world.value = search rules in
    let e = rw c.deref.ensures at c.request_in-told.ensures in
    does (Told (λ w. request_at w c.args.number)) _ _ _ c.in_ok-world.world.value
    c.in_ok-world.world.value c.request_in-told.result at c.of.ensures.live c.of.ensures.world
    (record { same = refl; tells = e })
