use Rattle.std.proofs.Common.{rules, ◌≡◌, Some}
use Rattle.pafteis_world.specs.Driven.{Stepped, world_in}
use Rattle.pafteis_world.proofs.Deeds.{does}
use Rattle.pafteis_world.proofs.driving.steps.Goals as goal

pub returns : goal.returns
returns c =
    let at : world_in c.args.handle.now ≡ Some c.in_ok-world.world.value = search rules in
    let e = rw c.deref_mut.ensures.value at c.steps-steps.ensures in
    does (Stepped c.args.thread c.args.count) _ _ _ c.in_ok-world.world.value c.steps-steps.new.self
    c.steps-steps.result at c.of.ensures.live c.of.ensures.world
    (record {
      few = e.few;
      none = e.none;
      makes = e.makes;
      all = e.all;
      goes_on = e.goes_on;
      threads = e.steps;
    })
