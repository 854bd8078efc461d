use Rattle.std.proofs.Common.{arith}
use Rattle.answer.proofs.Delivering.{answers_rightly}
use Rattle.answer_runs.specs.InJson.{IsTraceJsonOf}
use Rattle.answer_runs.proofs.Tracing.{in_json}
use Rattle.answer_runs.proofs.trace.trace_json.Goals as goal

pub returns-clause-answers : goal.returns-clause-answers
returns-clause-answers g c =
    answers_rightly _ (IsTraceJsonOf c.args.asked (g.S.Source.supply c.args.set.now)
    (g.P.Source.supply c.args.schedule.now)) _ _ _ _ _ _ _ _ _ _
    c.deliver_trace.ensures.answers
    (in_json _ c.args.asked _ _) (omega arith)
