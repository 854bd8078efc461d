use Rattle.hunt_worlds.specs.Alike.{CellsBelow}
use Rattle.hunt_worlds.proofs.cells.same_cells_of.Given as goal

abbrev pub invariant-loop-number : goal.invariant-loop-number
invariant-loop-number l =
    CellsBelow l.ours l.its l.device l.number
