use Rattle.hunt_worlds.specs.Alike.{LocksBelow}
use Rattle.hunt_worlds.proofs.locks.same_locks_of.Given as goal

abbrev pub invariant-loop-number : goal.invariant-loop-number
invariant-loop-number l =
    LocksBelow l.ours.locks l.its.locks l.device l.number
