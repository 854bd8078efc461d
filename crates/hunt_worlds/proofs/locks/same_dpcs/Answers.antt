use Rattle.std.proofs.Common.{arith}
use Rattle.hunt_worlds.proofs.locks.same_dpcs.Goals as goal

pub returns : goal.returns
returns c =
    λ holds k low. c.loop-device.invariant k (omega (arith, low, c.loop-device-test.false))
