use Rattle.asm_line.proofs.Steps.{pass_read, put_read}
use Rattle.asm_line.proofs.quick.read_put_or_pass.Goals as goal

pub returns-in-Some-clause-read : goal.returns-in-Some-clause-read
returns-in-Some-clause-read c =
    put_read c.in-Some.ensures.read.parts c.in-Some.ensures.read.first c.in-Some.ensures.read.second c.in-Some.ensures.read.done

pub returns-in-Some-register_behind-clause-read : goal.returns-in-Some-register_behind-clause-read
returns-in-Some-register_behind-clause-read c =
    pass_read c.in-Some-register_behind.ensures.read.parts c.in-Some-register_behind.ensures.read.first c.in-Some-register_behind.ensures.read.done
