use Rattle.scenario_world.proofs.Awaited.{Gathering}
use Rattle.scenario_world.proofs.goers.goers_among.Given as goal

abbrev pub invariant-loop-thread : goal.invariant-loop-thread
invariant-loop-thread l =
    Gathering l.machine.set l.machine.world l.threads l.thread l.going.items l.awaited.items
