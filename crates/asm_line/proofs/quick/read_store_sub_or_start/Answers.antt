use Rattle.asm_line.proofs.Steps.{start_read, store_read, storep_read, sub_read}
use Rattle.asm_line.proofs.quick.read_store_sub_or_start.Goals as goal

pub returns-in-Some-clause-read : goal.returns-in-Some-clause-read
returns-in-Some-clause-read c =
    storep_read c.in-Some.ensures c.in_ok-cell.ensures.read c.in_ok-register.ensures.read c.in_ok-end.ensures

pub returns-in-Some-registers_behind-clause-read : goal.returns-in-Some-registers_behind-clause-read
returns-in-Some-registers_behind-clause-read c =
    sub_read c.in-Some-registers_behind.ensures.read.parts c.in-Some-registers_behind.ensures.read.first c.in-Some-registers_behind.ensures.read.second c.in-Some-registers_behind.ensures.read.done

pub returns-in-Some-register_behind-clause-read : goal.returns-in-Some-register_behind-clause-read
returns-in-Some-register_behind-clause-read c =
    start_read c.in-Some-register_behind.ensures.read.parts c.in-Some-register_behind.ensures.read.first c.in-Some-register_behind.ensures.read.done

pub returns-in-Some-behind-clause-read : goal.returns-in-Some-behind-clause-read
returns-in-Some-behind-clause-read c =
    store_read c.in-Some-behind.ensures c.in_ok-cell-2.ensures.read c.in_ok-register-2.ensures.read c.in_ok-end-2.ensures
