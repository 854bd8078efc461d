use Rattle.std.proofs.Common.{◌≡◌}
use Rattle.irp.proofs.Marks.{marks_so_far}
use Rattle.irp.proofs.packet.Packet.marks.Given as goal

abbrev pub invariant-loop-place : goal.invariant-loop-place
invariant-loop-place l = l.marks ≡ marks_so_far l.location-items l.place
