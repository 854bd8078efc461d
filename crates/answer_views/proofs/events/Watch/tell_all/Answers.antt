use Rattle.answer_views.proofs.ToldJson.{run_told}
use Rattle.answer_views.proofs.events.Watch.tell_all.Goals as goal

pub returns : goal.returns
returns c =
    let (past, runs, shown, told) = c.in-Ok.ensures in
    rw (c.end_of.ensures, c.fails-strictly.ensures)
    (run_told c.args.strictness c.args.machine.now.set c.args.schedule.now.threads _ past _ _ _ _
    _ _ runs shown told c.in_ok-found.ensures c.any.ensures c.in_ok-add.ensures.added)
