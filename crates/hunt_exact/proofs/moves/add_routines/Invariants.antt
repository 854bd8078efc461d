use Rattle.std.proofs.Common.{◌≡◌, ◌++◌}
use Rattle.hunt_exact.specs.Moves.{routines_on}
use Rattle.hunt_exact.proofs.moves.add_routines.Given as goal

abbrev pub invariant-loop-device : goal.invariant-loop-device
invariant-loop-device l =
    l.moves.items ≡ l.initial.moves.items ++ routines_on l.thread l.device
