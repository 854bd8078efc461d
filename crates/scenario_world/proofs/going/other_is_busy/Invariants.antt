use Rattle.std.proofs.Common.{◌≡◌}
use Rattle.scenario_world.specs.Going.{other_is_busy}
use Rattle.scenario_world.proofs.going.other_is_busy.Given as goal

-- one of the others so far has frames
abbrev pub invariant-loop-other : goal.invariant-loop-other
invariant-loop-other l = l.found ≡ other_is_busy l.machine.world l.thread l.other
