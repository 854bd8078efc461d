use Rattle.std.proofs.Common.{◌≡◌}
use Rattle.tell_audit.specs.Rest.{live_below}
use Rattle.tell_audit.proofs.standing.live_packets.Given as goal

abbrev pub invariant-loop-packet : goal.invariant-loop-packet
invariant-loop-packet l = l.packets.items ≡ live_below l.machine.world l.packet
