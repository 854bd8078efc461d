use Rattle.std.proofs.Common.{rules}
use Rattle.scenario_world.specs.declared.goers.Awaited.{Awaited}
use Rattle.model.specs.declared.event.Lock.TheVariants.{SystemCancel}
use Rattle.scenario_world.proofs.Awaited.{has_one}
use Rattle.scenario_world.proofs.goers.has_lock.Goals as goal

pub returns-then-eq : goal.returns-then-eq
returns-then-eq c =
    λ yes.
    let some : Awaited = record { lock = SystemCancel; owner = 0 } in
    has_one c.args.awaited.now c.loop-one.one-index some c.args.lock (search rules) (search rules)
