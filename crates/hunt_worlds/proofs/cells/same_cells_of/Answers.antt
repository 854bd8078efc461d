use Rattle.std.proofs.Common.{arith}
use Rattle.hunt_worlds.proofs.cells.same_cells_of.Goals as goal

pub returns : goal.returns
returns c =
    λ holds k low. c.loop-number.invariant k (omega (arith, low, c.loop-number-test.false))
