use Rattle.hunt_worlds.specs.Alike.{SameCells}
use Rattle.hunt_worlds.proofs.cells.same_cells.Given as goal

abbrev pub invariant-loop-device : goal.invariant-loop-device
invariant-loop-device l =
    SameCells l.ours l.its l.device
