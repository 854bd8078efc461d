use Rattle.std.proofs.Common.{arith}
use Rattle.drvhost_devices.specs.Answer.{Answer}
use Rattle.answer.proofs.Delivering.{answers_rightly, unread}
use Rattle.answer.specs.Run.{IsRunOf}
use Rattle.answer_runs.specs.Tracing.{IsOfReady, IsTracedBy}
use Rattle.answer_runs.proofs.trace.deliver_trace.Goals as goal

pub returns-in-Ok-clause-answers : goal.returns-in-Ok-clause-answers
returns-in-Ok-clause-answers g c =
    let run = c.args.run.now in
    let Q : Answer → Type 0 = IsRunOf g.F.Form run.form run.set.now run.verification
    (IsTracedBy g.F.RunForm run.form run.input.now)
    (g.S.Source.supply c.args.set.now) (g.P.Source.supply c.args.schedule.now) in
    let before = g.S.Source.failures c.args.set.now in
    let read = c.in-Ok.ensures.reads in
    answers_rightly (IsOfReady g.F.RunForm run.form c.in-Ok.ready) Q before before _ _ _ _ _ _ _ _
    (c.tell_ready.ensures before) c.in-Ok.ensures.ready (omega (arith, read))

pub returns-in-Err-clause-answers : goal.returns-in-Err-clause-answers
returns-in-Err-clause-answers g c =
    unread _ c.in-Err.fault _ _ _ _ _ _ c.in-Err.ensures.fault c.in-Err.ensures.reads
    c.tell_unread.ensures.told c.tell_unread.ensures.status
