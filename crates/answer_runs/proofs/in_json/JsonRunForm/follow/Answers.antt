use Rattle.std.specs.Prelude.{⊤}
use Rattle.model.specs.Run.{begun}
use Rattle.drvhost_devices.specs.Answer.{shown_replies}
use Rattle.answer_runs.specs.InJson.{IsRunInJson, event_line}
use Rattle.answer_runs.specs.Traced.{IsTraceBy}
use Rattle.answer_runs.proofs.Streaming.{streams_rightly}
use Rattle.answer_runs.proofs.Tracing.{json_traced}
use Rattle.answer_runs.proofs.in_json.JsonRunForm.follow.Goals as goal

pub returns-clause-streams : goal.returns-clause-streams
returns-clause-streams g c =
    let schedule = c.args.schedule.now in
    let set = g.M.Machine.set_of c.args.machine.now in
    let all = shown_replies set (begun set schedule.threads) schedule.events in
    streams_rightly (IsTraceBy ⊤ event_line all) (IsRunInJson all)
    (g.O.Sink.contents c.args.out.now) (g.O.Sink.contents c.follow.new.out) c.follow.result
    (json_traced all) c.follow.ensures.streams
