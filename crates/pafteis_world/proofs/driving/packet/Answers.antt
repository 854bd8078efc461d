use Rattle.std.proofs.Common.{rules, ◌≡◌, Some, refl}
use Rattle.model.specs.View.{packet_at}
use Rattle.pafteis_world.specs.Driven.{Told, world_in}
use Rattle.pafteis_world.proofs.Deeds.{does}
use Rattle.pafteis_world.proofs.driving.packet.Goals as goal

pub returns : goal.returns
returns c =
    let at : world_in c.args.handle.now ≡ Some c.in_ok-world.world.value = search rules in
    let e = rw c.deref.ensures at c.packet-told.ensures in
    does (Told (λ w. packet_at w c.args.number)) _ _ _ c.in_ok-world.world.value
    c.in_ok-world.world.value c.packet-told.result at c.of.ensures.live c.of.ensures.world
    (record { same = refl; tells = e })
