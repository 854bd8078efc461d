use Rattle.std.proofs.Common.{rules, ◌≡◌, Some, refl}
use Rattle.machine.specs.Read.{cells_at}
use Rattle.pafteis_world.specs.Driven.{Told, world_in}
use Rattle.pafteis_world.proofs.Deeds.{does}
use Rattle.pafteis_world.proofs.reading.cells.Goals as goal

pub returns : goal.returns
returns c =
    let at : world_in c.args.handle.now ≡ Some c.in_ok-world.world.value = search rules in
    let e = rw c.deref.ensures at c.cells-told.ensures in
    does (Told (λ w. cells_at w c.args.device)) _ _ _ c.in_ok-world.world.value
    c.in_ok-world.world.value c.cells-told.result at c.of.ensures.live c.of.ensures.world
    (record { same = refl; tells = e })
