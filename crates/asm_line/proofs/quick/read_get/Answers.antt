use Rattle.asm_line.proofs.Steps.{get_read}
use Rattle.asm_line.proofs.quick.read_get.Goals as goal

pub returns-in-Some-clause-read : goal.returns-in-Some-clause-read
returns-in-Some-clause-read c =
    get_read c.in-Some.ensures c.in_ok-register.ensures.read c.in_ok-other.ensures.read c.in_ok-field.ensures c.in_ok-end.ensures
