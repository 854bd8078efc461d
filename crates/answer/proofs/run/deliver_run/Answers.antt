use Rattle.std.proofs.Common.{◌≡◌, List, Ok, arith, ℕ}
use Rattle.model.specs.Set.{Set}
use Rattle.drvhost_devices.specs.Answer.{Answer}
use Rattle.answer.specs.Run.{IsRunOf}
use Rattle.answer.proofs.Delivering.{answers_rightly, found, unread}
use Rattle.answer.proofs.run.deliver_run.Goals as goal

pub returns-in-Ok-clause-answers : goal.returns-in-Ok-clause-answers
returns-in-Ok-clause-answers g c =
    let run = c.args.run.now in
    let Right : List ℕ → Set → List ℕ → Answer → Type 0 =
    λ held set. g.J.OnRun.right run.job run.form run.set.now held set run.input.now in
    let Q : Answer → Type 0 = IsRunOf g.F.Form run.form run.set.now run.verification Right
    (g.S.Source.supply c.args.set.now) (g.P.Source.supply c.args.input.now) in
    let before = g.S.Source.failures c.args.set.now in
    let read = c.in-Ok.ensures.reads in
    answers_rightly (λ told. Ok c.in-Ok.told ≡ Ok told) Q before before _ _ _ _ _ _ _ _
    (c.write_answer.ensures before)
    (λ told is. found Q (Ok c.in-Ok.told) told c.in-Ok.ensures.told is)
    (omega (arith, read))

pub returns-in-Err-clause-answers : goal.returns-in-Err-clause-answers
returns-in-Err-clause-answers g c =
    unread _ c.in-Err.fault _ _ _ _ _ _ c.in-Err.ensures.fault c.in-Err.ensures.reads
    c.tell_unread.ensures.told c.tell_unread.ensures.status
