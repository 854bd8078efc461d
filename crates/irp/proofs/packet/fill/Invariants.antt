use Rattle.std.proofs.Common.{◌≡◌, ◌∷◌, replicate}
use Rattle.model.specs.World.{unused_location}
use Rattle.irp.proofs.packet.fill.Given as goal

abbrev pub invariant-loop-place : goal.invariant-loop-place
invariant-loop-place l = l.stack.items ≡ l.fn.first ∷ replicate l._place unused_location
