use Rattle.std.proofs.Common.{refl}
use Rattle.std.proofs.lemmas.Result.{err_from_is_err_and}
use Rattle.model.specs.Run.{begun}
use Rattle.drvhost_devices.specs.Answer.{Answer, shown_replies}
use Rattle.drvhost_devices.proofs.Writing.{adds_none}
use Rattle.answer_runs.specs.Traced.{IsTraceBy}
use Rattle.answer_runs.specs.Watching.{ShowsOf}
use Rattle.answer_runs.proofs.Lining.{observed_broken, observed_told}
use Rattle.answer_runs.proofs.Streaming.{streams_broken, streams_written}
use Rattle.answer_runs.proofs.lined.write_run.Goals as goal

pub observe-requires-clause-fresh : goal.observe-requires-clause-fresh
observe-requires-clause-fresh g c =
    record {
      same_page = refl;
      same_out = refl;
      room = c.requires.out;
      fine = refl;
      numbered = c.requires.first;
      adds = adds_none _ _;
    }

pub returns-in_err-end-clause-streams : goal.returns-in_err-end-clause-streams
returns-in_err-end-clause-streams g c =
    let p = err_from_is_err_and c.from_residual.result c.from_residual.ensures.1 in
    rw (p.1, p.2)
    (observed_broken g.L.ReplyLines g.O.Sink
    (ShowsOf g.M.Machine.set_of g.M.Machine.shows c.observe.new.machine
    (g.M.Machine.set_of c.args.machine.now))
    _ _ _ _ _ c.requires.empty _ c.in_err-end.ensures)

pub returns-in_err-write_bytes-clause-streams : goal.returns-in_err-write_bytes-clause-streams
returns-in_err-write_bytes-clause-streams g c =
    let p = err_from_is_err_and c.from_residual-in_err-write_bytes.result
    c.from_residual-in_err-write_bytes.ensures.1 in
    let schedule = c.args.schedule.now in
    let set = g.M.Machine.set_of c.args.machine.now in
    let R : Answer → Type 0 = IsTraceBy g.L.ReplyLines.lacks g.L.ReplyLines.line
    (shown_replies set (begun set schedule.threads) schedule.events) in
    rw (p.1, p.2, c.in_err-write_bytes.ensures.fault)
    (streams_broken R _ _ _ _ c.in_ok-end.end
    (observed_told g.L.ReplyLines g.O.Sink
    (ShowsOf g.M.Machine.set_of g.M.Machine.shows c.observe.new.machine set)
    _ _ _ _ _ c.requires.empty c.in_ok-end.end c.in_ok-end.ensures)
    (rw c.bytes.ensures at c.in_err-write_bytes.ensures.written))

pub returns-clause-streams : goal.returns-clause-streams
returns-clause-streams g c =
    let schedule = c.args.schedule.now in
    let set = g.M.Machine.set_of c.args.machine.now in
    let R : Answer → Type 0 = IsTraceBy g.L.ReplyLines.lacks g.L.ReplyLines.line
    (shown_replies set (begun set schedule.threads) schedule.events) in
    streams_written R _ _ _ _ c.in_ok-end.end
    (observed_told g.L.ReplyLines g.O.Sink
    (ShowsOf g.M.Machine.set_of g.M.Machine.shows c.observe.new.machine set)
    _ _ _ _ _ c.requires.empty c.in_ok-end.end c.in_ok-end.ensures)
    (rw c.bytes.ensures at c.in_ok-write_bytes.ensures.written)
