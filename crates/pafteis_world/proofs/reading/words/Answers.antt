use Rattle.std.proofs.Common.{rules, ◌≡◌, Some, refl}
use Rattle.pafteis_world.specs.Driven.{ToldWords, world_in}
use Rattle.pafteis_world.proofs.Deeds.{does}
use Rattle.pafteis_world.proofs.reading.words.Goals as goal

pub returns : goal.returns
returns c =
    let at : world_in c.args.handle.now ≡ Some c.in_ok-world.world.value = search rules in
    let e = rw c.deref.ensures at c.words_in-told.ensures in
    does (ToldWords c.args.thread) _ _ _ c.in_ok-world.world.value
    c.in_ok-world.world.value c.words_in-told.result at c.of.ensures.live c.of.ensures.world
    (record { same = refl; lends = e })
