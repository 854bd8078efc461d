use Rattle.asm_line.proofs.Steps.{acqc_read, acquire_read, add_read}
use Rattle.asm_line.proofs.quick.read_add_or_acquire.Goals as goal

pub returns-in-Some-clause-read : goal.returns-in-Some-clause-read
returns-in-Some-clause-read c =
    add_read c.in-Some.ensures.read.parts c.in-Some.ensures.read.first c.in-Some.ensures.read.second c.in-Some.ensures.read.done

pub returns-in-Some-behind-clause-read : goal.returns-in-Some-behind-clause-read
returns-in-Some-behind-clause-read c =
    acquire_read c.in-Some-behind.ensures c.in_ok-lock.ensures.read c.in_ok-end.ensures

pub returns-in-Some-behind-2-clause-read : goal.returns-in-Some-behind-2-clause-read
returns-in-Some-behind-2-clause-read c =
    acqc_read c.in-Some-behind-2.ensures c.in_ok-end-2.ensures
