use Rattle.std.proofs.Common.{◌-◌, ◌≤◌}
use Rattle.machine.specs.Steps.{Stepping}
use Rattle.machine.proofs.world.World.steps.Given as goal

abbrev pub invariant-loop-made : goal.invariant-loop-made
invariant-loop-made l =
    record { few : l.made ≤ l.count; stepping : Stepping l.fn.self l.thread l.made l.self }

abbrev pub decreases-loop-made : goal.decreases-loop-made
decreases-loop-made l = l.count - l.made
