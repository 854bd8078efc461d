use Rattle.std.proofs.Common.{◌≡◌, drop}
use Rattle.scenario_world.specs.Goers.{are_owned}
use Rattle.scenario_world.proofs.goers.are_owned.Given as goal

-- those that are left decide
abbrev pub invariant-loop-one : goal.invariant-loop-one
invariant-loop-one l =
    are_owned l.machine.world.shared.locks (drop l.one-index l.awaited)
    ≡ are_owned l.machine.world.shared.locks l.awaited
