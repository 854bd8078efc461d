use Rattle.asm_line.proofs.Steps.{remove_read}
use Rattle.asm_line.proofs.quick.read_remove.Goals as goal

pub returns-in-Some-clause-read : goal.returns-in-Some-clause-read
returns-in-Some-clause-read c =
    rw (c.removing.ensures) (remove_read c.in-Some.ensures c.in_ok-register.ensures.read c.in_ok-queue.ensures c.in_ok-label.ensures c.in_ok-end.ensures)
