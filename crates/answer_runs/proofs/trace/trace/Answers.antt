use Rattle.std.proofs.Common.{[], arith}
use Rattle.drvhost_devices.specs.Ends.{IsTraceOf}
use Rattle.answer.proofs.Delivering.{answers_rightly}
use Rattle.answer.specs.contracts.as_text.TextForm.TheImpl.{ghosts as text_form}
use Rattle.answer.specs.declared.as_text.Text.{Text}
use Rattle.answer.specs.Run.{IsRunOf}
use Rattle.drvhost_devices.specs.Answer.{Answer}
use Rattle.answer_runs.specs.contracts.in_text.TextRunForm.TheImpl.{ghosts as text_run}
use Rattle.answer_runs.specs.Tracing.{IsTracedBy}
use Rattle.answer_runs.proofs.Tracing.{in_text}
use Rattle.answer_runs.proofs.trace.trace.Goals as goal

pub returns-clause-answers : goal.returns-clause-answers
returns-clause-answers g c =
    let it : Text = record {} in
    let set = g.S.Source.supply c.args.set.now in
    let schedule = g.P.Source.supply c.args.schedule.now in
    let R : Answer → Type 0 = IsRunOf text_form it [] c.args.verification
    (IsTracedBy text_run it []) set schedule in
    answers_rightly R (IsTraceOf c.args.verification set schedule) _ _ _ _ _ _ _ _ _ _
    c.deliver_trace.ensures.answers (in_text it [] [] c.args.verification set schedule)
    (omega arith)
