use Rattle.std.proofs.Common.{arith}
use Rattle.hunt_worlds.proofs.Alike.{gets_same}
use Rattle.hunt_worlds.proofs.packets.same_locations.Goals as goal

pub returns : goal.returns
returns c =
    λ holds.
    gets_same c.args.ours.now.locations.items c.args.its.now.locations.items
    c.loop-place.invariant.long
    (λ k low.
    c.loop-place.invariant.same k
    (omega (arith, low, c.loop-place.invariant.end, c.loop-place-test.false)))
