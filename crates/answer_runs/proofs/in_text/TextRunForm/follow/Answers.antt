use Rattle.std.proofs.Common.{◌≡◌}
use Rattle.model.specs.Run.{begun}
use Rattle.report.specs.Reply.{reply_line}
use Rattle.drvhost_devices.specs.Answer.{Answer, shown_replies, trace_of}
use Rattle.answer_runs.specs.Traced.{IsTraceBy}
use Rattle.answer_runs.proofs.Streaming.{streams_rightly}
use Rattle.answer_runs.proofs.Tracing.{text_traced}
use Rattle.answer_runs.proofs.in_text.TextRunForm.follow.Goals as goal

pub returns-clause-streams : goal.returns-clause-streams
returns-clause-streams g c =
    let schedule = c.args.schedule.now in
    let set = g.M.Machine.set_of c.args.machine.now in
    let all = shown_replies set (begun set schedule.threads) schedule.events in
    let Q : Answer → Type 0 = λ answer. answer ≡ trace_of all in
    streams_rightly (IsTraceBy ⊥ reply_line all) Q (g.O.Sink.contents c.args.out.now)
    (g.O.Sink.contents c.follow.new.out) c.follow.result (text_traced all)
    c.follow.ensures.streams
