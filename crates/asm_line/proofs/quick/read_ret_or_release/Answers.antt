use Rattle.asm_line.proofs.Steps.{lower_read, relc_read, release_read, ret_read}
use Rattle.asm_line.proofs.quick.read_ret_or_release.Goals as goal

pub returns-in-Some-clause-read : goal.returns-in-Some-clause-read
returns-in-Some-clause-read c =
    lower_read c.in-Some.ensures.read.parts c.in-Some.ensures.read.first c.in-Some.ensures.read.done

pub returns-in-Some-behind-clause-read : goal.returns-in-Some-behind-clause-read
returns-in-Some-behind-clause-read c =
    ret_read c.in-Some-behind.ensures c.in_ok-returned.ensures.read c.in_ok-end.ensures

pub returns-in-Some-behind-2-clause-read : goal.returns-in-Some-behind-2-clause-read
returns-in-Some-behind-2-clause-read c =
    release_read c.in-Some-behind-2.ensures c.in_ok-lock.ensures.read c.in_ok-end-2.ensures

pub returns-in-Some-behind-3-clause-read : goal.returns-in-Some-behind-3-clause-read
returns-in-Some-behind-3-clause-read c =
    relc_read c.in-Some-behind-3.ensures c.in_ok-end-3.ensures
