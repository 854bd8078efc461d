use Rattle.std.proofs.Common.{◌≡◌, false}
use Rattle.scenario_world.specs.Going.{any_goes_on}
use Rattle.scenario_world.proofs.going.first_going.Given as goal

-- none of those so far goes on
abbrev pub invariant-loop-thread : goal.invariant-loop-thread
invariant-loop-thread l = any_goes_on l.machine.set l.machine.world l.thread ≡ false
