use Rattle.asm_line.proofs.Steps.{load_read, loadp_read, loop_read}
use Rattle.asm_line.proofs.quick.read_loop_or_load.Goals as goal

pub returns-in-Some-clause-read : goal.returns-in-Some-clause-read
returns-in-Some-clause-read c =
    loop_read c.in-Some.ensures c.in_ok-turns.ensures.read c.in_ok-end.ensures

pub returns-in-Some-behind-clause-read : goal.returns-in-Some-behind-clause-read
returns-in-Some-behind-clause-read c =
    loadp_read c.in-Some-behind.ensures c.in_ok-register.ensures.read c.in_ok-cell.ensures.read c.in_ok-end-2.ensures

pub returns-in-Some-behind-2-clause-read : goal.returns-in-Some-behind-2-clause-read
returns-in-Some-behind-2-clause-read c =
    load_read c.in-Some-behind-2.ensures c.in_ok-register-2.ensures.read c.in_ok-cell-2.ensures.read c.in_ok-end-3.ensures
