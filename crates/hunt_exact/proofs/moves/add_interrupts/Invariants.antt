use Rattle.std.proofs.Common.{◌≡◌, ◌++◌}
use Rattle.hunt_exact.specs.Moves.{interrupts}
use Rattle.hunt_exact.proofs.moves.add_interrupts.Given as goal

abbrev pub invariant-loop-device : goal.invariant-loop-device
invariant-loop-device l =
    l.moves.items ≡ l.initial.moves.items ++ interrupts l.device
