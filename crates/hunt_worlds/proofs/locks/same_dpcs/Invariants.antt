use Rattle.hunt_worlds.specs.Alike.{SameDpcs}
use Rattle.hunt_worlds.proofs.locks.same_dpcs.Given as goal

abbrev pub invariant-loop-device : goal.invariant-loop-device
invariant-loop-device l =
    SameDpcs l.ours l.its l.device
