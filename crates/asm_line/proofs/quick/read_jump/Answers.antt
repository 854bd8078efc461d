use Rattle.asm_line.proofs.Steps.{jlt_read, jmp_read, jz_read}
use Rattle.asm_line.proofs.quick.read_jump.Goals as goal

pub returns-in-Some-clause-read : goal.returns-in-Some-clause-read
returns-in-Some-clause-read c =
    rw (c.jump.ensures) (jz_read c.in-Some.ensures.read.parts c.in-Some.ensures.read.first c.in-Some.ensures.read.second c.in-Some.ensures.read.done)

pub returns-in-Some-behind-clause-read : goal.returns-in-Some-behind-clause-read
returns-in-Some-behind-clause-read c =
    rw (c.jump-in-Some-behind.ensures) (jlt_read c.in-Some-behind.ensures c.in_ok-register.ensures.read c.in_ok-other.ensures.read c.in_ok-label.ensures c.in_ok-end.ensures)

pub returns-in-Some-behind-2-clause-read : goal.returns-in-Some-behind-2-clause-read
returns-in-Some-behind-2-clause-read c =
    rw (c.jump-in-Some-behind-2.ensures) (jmp_read c.in-Some-behind-2.ensures c.in_ok-label-2.ensures c.in_ok-end-2.ensures)
