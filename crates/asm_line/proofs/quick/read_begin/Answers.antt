use Rattle.asm_line.proofs.Steps.{begin_read}
use Rattle.asm_line.proofs.quick.read_begin.Goals as goal

pub returns-in-Some-clause-read : goal.returns-in-Some-clause-read
returns-in-Some-clause-read c =
    begin_read c.in-Some.ensures.read.parts c.in-Some.ensures.read.first c.in-Some.ensures.read.done
