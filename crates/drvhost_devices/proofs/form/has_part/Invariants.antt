use Rattle.std.proofs.Common.{◌≡◌, length}
use Rattle.drvhost_devices.specs.Forms.{has_part}
use Rattle.drvhost_devices.proofs.form.has_part.Given as goal

abbrev pub invariant-loop-first : goal.invariant-loop-first
invariant-loop-first l = has_part l.words l.rest ≡ has_part l.words l.line

abbrev pub decreases-loop-first : goal.decreases-loop-first
decreases-loop-first l = length l.rest
