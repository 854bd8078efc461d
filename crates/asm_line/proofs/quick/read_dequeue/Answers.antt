use Rattle.asm_line.proofs.Steps.{dequeue_read}
use Rattle.asm_line.proofs.quick.read_dequeue.Goals as goal

pub returns-in-Some-clause-read : goal.returns-in-Some-clause-read
returns-in-Some-clause-read c =
    dequeue_read c.in-Some.ensures.read.parts c.in-Some.ensures.read.first c.in-Some.ensures.read.done
