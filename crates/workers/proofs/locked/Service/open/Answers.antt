use Rattle.std.proofs.Common.{sym}
use Rattle.workers.proofs.Opening.{opened}
use Rattle.workers.proofs.Standstill.{no_marks}
use Rattle.workers.proofs.locked.Service.open.Goals as goal

pub invariant_of-result : goal.invariant_of-result
invariant_of-result g c = (
  rw c.requires.takers (opened _ _ _ _ c.requires.given c.requires.seats),
  sym c.requires.none,
  no_marks _ 64,
)
