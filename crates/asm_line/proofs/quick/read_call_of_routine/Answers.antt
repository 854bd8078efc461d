use Rattle.asm_line.proofs.Steps.{call_read}
use Rattle.asm_line.proofs.quick.read_call_of_routine.Goals as goal

pub returns-in-Some-clause-read : goal.returns-in-Some-clause-read
returns-in-Some-clause-read c =
    rw (c.calling.ensures) (call_read c.in-Some.ensures c.in_ok-register.ensures.read c.in_ok-routine.ensures c.in_ok-end.ensures)
