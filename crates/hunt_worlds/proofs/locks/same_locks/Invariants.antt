use Rattle.hunt_worlds.specs.Alike.{SameLocks}
use Rattle.hunt_worlds.proofs.locks.same_locks.Given as goal

abbrev pub invariant-loop-device : goal.invariant-loop-device
invariant-loop-device l =
    SameLocks l.ours.locks l.its.locks l.device
