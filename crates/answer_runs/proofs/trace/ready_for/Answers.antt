use Rattle.std.proofs.Common.{ℕ, List, inl}
use Rattle.std.proofs.lemmas.Result.{IfOk-weaker}
use Rattle.model.specs.Set.{Set}
use Rattle.drvhost_devices.specs.Answer.{Answer}
use Rattle.answer.specs.Run.{IsByInput, IsRunOfBytes, set_chosen}
use Rattle.answer.proofs.Running.{of_run}
use Rattle.answer_runs.specs.Tracing.{IsReadyFor, IsTracedBy, IsTracedOf}
use Rattle.answer_runs.proofs.trace.ready_for.Goals as goal

pub returns-in-Runs-clause-ready : goal.returns-in-Runs-clause-ready
returns-in-Runs-clause-ready g c =
    let run = c.args.run.now in
    let bytes = c.args.bytes.now in
    let held = g.P.Source.supply c.args.schedule.now in
    let set = set_chosen c.in-Runs.chosen in
    let begun = rw c.in-Runs.is at c.in_ok-chosen.ensures in
    let Right : List ℕ → Set → List ℕ → Answer → Type 0 =
    IsTracedBy g.F.RunForm run.form run.input.now in
    IfOk-weaker c.with_schedule.result
    (IsReadyFor g.F.RunForm run.form (IsTracedOf g.F.RunForm run.form run.input.now held set))
    (IsReadyFor g.F.RunForm run.form
    (IsRunOfBytes g.F.Form run.form run.set.now run.verification Right bytes held))
    (λ ready on answer right. inl (
      set,
      begun.0,
      of_run g.F.Form run.form run.set.now run.verification (IsByInput Right held) bytes set answer
          begun.1 (on answer right),
    ))
    c.with_schedule.ensures.ready
