use Rattle.std.proofs.Common.{◌≡◌}
use Rattle.tell_audit.specs.Missed.{missed_below}
use Rattle.tell_audit.proofs.missed.missed_packets.Given as goal

abbrev pub invariant-loop-packet : goal.invariant-loop-packet
invariant-loop-packet l = l.missed.items ≡ missed_below l.machine.world l.packet
