use Rattle.std.proofs.Common.{arith}
use Rattle.hunt_worlds.proofs.Alike.{gets_same}
use Rattle.hunt_worlds.proofs.queues.GuardedSame.same.Goals as goal

pub returns : goal.returns
returns c =
    λ holds.
    gets_same c.args.self.now c.args.other.now c.loop-place.invariant.long
    (λ k low.
    c.loop-place.invariant.same k
    (omega (arith, low, c.loop-place.invariant.end, c.loop-place-test.false)))
