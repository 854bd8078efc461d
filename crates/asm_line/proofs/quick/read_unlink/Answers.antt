use Rattle.asm_line.proofs.Steps.{unlink_read}
use Rattle.asm_line.proofs.quick.read_unlink.Goals as goal

pub returns-in-Some-clause-read : goal.returns-in-Some-clause-read
returns-in-Some-clause-read c =
    rw (c.queued.ensures) (unlink_read c.in-Some.ensures.read.parts c.in-Some.ensures.read.first c.in-Some.ensures.read.second c.in-Some.ensures.read.done)
