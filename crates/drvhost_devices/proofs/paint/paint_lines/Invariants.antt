use Rattle.std.proofs.Common.{ℕ, length}
use Rattle.drvhost_devices.proofs.Painting.{SoFar}
use Rattle.drvhost_devices.proofs.paint.paint_lines.Given as goal

abbrev pub invariant-loop-rest : goal.invariant-loop-rest
invariant-loop-rest l = SoFar l.fn.text l.rest l.initial.painted.items l.painted.items

abbrev pub decreases-loop-rest : goal.decreases-loop-rest
decreases-loop-rest l = length l.rest
