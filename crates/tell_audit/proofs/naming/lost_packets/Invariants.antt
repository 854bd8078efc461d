use Rattle.std.proofs.Common.{◌≡◌}
use Rattle.tell_audit.specs.Naming.{lost_below}
use Rattle.tell_audit.proofs.naming.lost_packets.Given as goal

abbrev pub invariant-loop-packet : goal.invariant-loop-packet
invariant-loop-packet l = l.lost.items ≡ lost_below l.machine.world l.packet
