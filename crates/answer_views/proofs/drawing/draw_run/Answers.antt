use Rattle.answer_views.proofs.DrawnRuns.{run_drawn}
use Rattle.answer_views.proofs.drawing.draw_run.Goals as goal

pub returns-in_ok-picture-in-Ok : goal.returns-in_ok-picture-in-Ok
returns-in_ok-picture-in-Ok c =
    let (past, runs, shown, told) = c.in-Ok.ensures in
    rw c.ended.ensures (run_drawn _ _ _ past _ _ runs)
