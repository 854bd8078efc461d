use Rattle.hunt_worlds.specs.Alike.{SamePackets}
use Rattle.hunt_worlds.proofs.packets.same_packets.Given as goal

abbrev pub invariant-loop-number : goal.invariant-loop-number
invariant-loop-number l =
    SamePackets l.ours l.its l.number
