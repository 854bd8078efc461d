use Rattle.std.proofs.Common.{arith}
use Rattle.interleave.proofs.Usual.{steps_read}
use Rattle.interleave.proofs.quick.steps.Goals as goal

pub returns : goal.returns
returns c =
    rw c.of.ensures (steps_read c.in_ok-thread.ensures (omega arith) c.in_ok-count.ensures)
