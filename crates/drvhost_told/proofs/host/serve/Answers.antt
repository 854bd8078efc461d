use Rattle.std.proofs.lemmas.Result.{IfOk-weaker}
use Rattle.drvhost_told.proofs.ServedScripts.{hosted_told}
use Rattle.drvhost_told.proofs.host.serve.Goals as goal

pub returns-in-Ok : goal.returns-in-Ok
returns-in-Ok g c =
    IfOk-weaker c.tell_served.result _ _
    (hosted_told c.args.accepted c.args.hosting.now.workers c.args.commands.now c.in-Ok.hosted
    c.in-Ok.ensures)
    c.tell_served.ensures
