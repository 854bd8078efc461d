use Rattle.asm_line.proofs.Steps.{calls_none, clear_read, complete_read, const_read}
use Rattle.asm_line.proofs.quick.read_const_clear_complete_call.Goals as goal

pub returns-in-Some-clause-read : goal.returns-in-Some-clause-read
returns-in-Some-clause-read c =
    const_read c.in-Some.ensures c.in_ok-register.ensures.read c.in_ok-constant.ensures.read c.in_ok-end.ensures

pub returns-in-Some-register_behind-clause-read : goal.returns-in-Some-register_behind-clause-read
returns-in-Some-register_behind-clause-read c =
    clear_read c.in-Some-register_behind.ensures.read.parts c.in-Some-register_behind.ensures.read.first c.in-Some-register_behind.ensures.read.done

pub returns-in-Some-behind-clause-read : goal.returns-in-Some-behind-clause-read
returns-in-Some-behind-clause-read c =
    complete_read c.in-Some-behind.ensures c.in_ok-register-2.ensures.read c.in_ok-status.ensures c.in_ok-end-2.ensures

pub returns-in-Some-register_behind-2-clause-read : goal.returns-in-Some-register_behind-2-clause-read
returns-in-Some-register_behind-2-clause-read c =
    calls_none c.in-Some-register_behind-2.ensures.read.parts c.in-Some-register_behind-2.ensures.read.first c.in-Some-register_behind-2.ensures.read.done
