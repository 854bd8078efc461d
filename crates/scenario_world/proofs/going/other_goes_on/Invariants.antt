use Rattle.std.proofs.Common.{◌≡◌}
use Rattle.scenario_world.specs.Going.{other_goes_on}
use Rattle.scenario_world.proofs.going.other_goes_on.Given as goal

-- one of the others so far goes on
abbrev pub invariant-loop-other : goal.invariant-loop-other
invariant-loop-other l =
    l.found ≡ other_goes_on l.machine.set l.machine.world l.thread l.other
