use Rattle.std.proofs.lemmas.Result.{IfOk-weaker}
use Rattle.drvhost_told.proofs.ServedScripts.{served_faulty, served_well}
use Rattle.drvhost_told.proofs.host.serve_read.Goals as goal

pub returns-in-Ok : goal.returns-in-Ok
returns-in-Ok g c =
    let asked = c.args.asked.now in
    rw c.in-Ok.is
    (IfOk-weaker c.serve.result _ _
    (served_well asked.hosting.workers asked.script.now c.args.accepted c.in-Ok.commands)
    (rw c.as_slice.ensures.value at c.serve.ensures))

pub returns-in-Err : goal.returns-in-Err
returns-in-Err g c =
    let asked = c.args.asked.now in
    rw c.in-Err.is
    (IfOk-weaker c.told_fault.result _ _
    (served_faulty asked.hosting.workers asked.script.now c.args.accepted c.in-Err.fault)
    c.told_fault.ensures)
