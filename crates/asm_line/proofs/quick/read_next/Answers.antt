use Rattle.asm_line.proofs.Steps.{next_read}
use Rattle.asm_line.proofs.quick.read_next.Goals as goal

pub returns-in-Some-clause-read : goal.returns-in-Some-clause-read
returns-in-Some-clause-read c =
    next_read c.in-Some.ensures c.in_ok-end.ensures
