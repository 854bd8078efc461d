use Rattle.asm_line.proofs.Steps.{ifcancel_read, ifpending_read, insert_read}
use Rattle.asm_line.proofs.quick.read_insert_or_if.Goals as goal

pub returns-in-Some-clause-read : goal.returns-in-Some-clause-read
returns-in-Some-clause-read c =
    rw (c.queued.ensures) (insert_read c.in-Some.ensures.read.parts c.in-Some.ensures.read.first c.in-Some.ensures.read.second c.in-Some.ensures.read.done)

pub returns-in-Some-register_label_behind-clause-read : goal.returns-in-Some-register_label_behind-clause-read
returns-in-Some-register_label_behind-clause-read c =
    rw (c.jump.ensures) (ifcancel_read c.in-Some-register_label_behind.ensures.read.parts c.in-Some-register_label_behind.ensures.read.first c.in-Some-register_label_behind.ensures.read.second c.in-Some-register_label_behind.ensures.read.done)

pub returns-in-Some-register_label_behind-2-clause-read : goal.returns-in-Some-register_label_behind-2-clause-read
returns-in-Some-register_label_behind-2-clause-read c =
    rw (c.jump-in-Some-register_label_behind-2.ensures) (ifpending_read c.in-Some-register_label_behind-2.ensures.read.parts c.in-Some-register_label_behind-2.ensures.read.first c.in-Some-register_label_behind-2.ensures.read.second c.in-Some-register_label_behind-2.ensures.read.done)
