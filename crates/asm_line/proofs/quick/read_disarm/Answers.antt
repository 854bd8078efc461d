use Rattle.asm_line.proofs.Steps.{disarm_read}
use Rattle.asm_line.proofs.quick.read_disarm.Goals as goal

pub returns-in-Some-clause-read : goal.returns-in-Some-clause-read
returns-in-Some-clause-read c =
    rw (c.jump.ensures) (disarm_read c.in-Some.ensures.read.parts c.in-Some.ensures.read.first c.in-Some.ensures.read.second c.in-Some.ensures.read.done)
