use Rattle.std.proofs.Common.{◌≡◌, Ok, arith, refl}
use Rattle.answer.proofs.Delivering.{answers_rightly, found}
use Rattle.drvhost_devices.specs.Answer.{Answer}
use Rattle.answer_runs.specs.Tracing.{IsRunBy}
use Rattle.answer.specs.Run.{set_chosen}
use Rattle.answer_runs.proofs.Streaming.{streamed}
use Rattle.answer_runs.proofs.trace.tell_ready.Goals as goal

pub returns-in-Runs : goal.returns-in-Runs
returns-in-Runs g c = λ reads.
    rw c.in-Runs.is
    (streamed
    (IsRunBy g.F.RunForm c.args.form.now c.in-Runs.schedule (set_chosen c.in-Runs.chosen)) _ _
    c.run_chosen-end.result reads _ _ _ _ c.run_chosen-end.ensures.streams
    c.run_chosen-end.ensures.writes c.tell_end.ensures.told c.tell_end.ensures.status)

pub returns-in-Kept : goal.returns-in-Kept
returns-in-Kept g c = λ reads.
    rw c.in-Kept.is
    (answers_rightly (λ answer. Ok c.in-Kept.told ≡ Ok answer) (λ answer. answer ≡ c.in-Kept.told)
    reads reads reads reads _ _ _ _ _ _ (c.write_answer.ensures reads)
    (λ answer same. found (λ (one : Answer). one ≡ c.in-Kept.told) (Ok c.in-Kept.told) answer refl same)
    (omega arith))
