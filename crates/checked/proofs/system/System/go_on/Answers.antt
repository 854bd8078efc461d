use Rattle.std.proofs.Common.{length, refl}
use Rattle.std.proofs.lemmas.Option.{slice_get_read}
use Rattle.model.specs.declared.world.Thread.{Thread}
use Rattle.model.specs.World.{World}
use Rattle.checked.specs.GoingOn.{world_rests, world_runs}
use Rattle.checked.proofs.NoFurther.{world_far}
use Rattle.checked.proofs.system.System.go_on.Goals as goal

pub returns-in_default-clause-goes : goal.returns-in_default-clause-goes
returns-in_default-clause-goes c = rw (← c.self.view_is) world_rests

pub returns-clause-goes : goal.returns-clause-goes
returns-clause-goes c =
    let threads = c.self.inside.thread_list.items in
    let x : Thread = c.in-Some.runner.now in
    rw (← c.self.view_is)
    (world_runs x c.go_on.new.self c.go_on.result
    (slice_get_read threads (length threads) c.args.thread x refl c.in-Some.ensures.item.3.0
    c.in-Some.ensures.value)
    c.go_on.ensures.goes)

pub returns-clause-far : goal.returns-clause-far
returns-clause-far c = λ short.
    let w : World = record {
      threads = c.self.inside.thread_list.items;
      shared = c.self.inside.shared;
    } in
    let x : Thread = c.in-Some.runner.now in
    world_far c.args.until.now c.args.set.now w c.args.thread x c.go_on.new.self
    (slice_get_read w.threads (length w.threads) c.args.thread x refl c.in-Some.ensures.item.3.0
    c.in-Some.ensures.value)
    (c.go_on.ensures.far short)
