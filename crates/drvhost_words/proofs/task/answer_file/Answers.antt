use Rattle.std.proofs.Common.{◌≡◌, Ok, arith, inl, refl}
use Rattle.answer.specs.Delivered.{IsAnswerFor}
use Rattle.answer.specs.declared.content.Content.TheVariants.{Unopened}
use Rattle.answer.proofs.Delivering.{answers_rightly, found}
use Rattle.drvhost_words.specs.Program.{IsOfFile, IsRightOf}
use Rattle.drvhost_words.specs.Unread.{IsNamedUnread}
use Rattle.drvhost_many.proofs.Known.{closed_known}
use Rattle.drvhost_many.proofs.Judged.{may_be_closed}
use Rattle.drvhost_words.proofs.Answering.{answers_alone, answers_unread}
use Rattle.drvhost_words.proofs.Tasks.{read_known}
use Rattle.drvhost_words.proofs.task.answer_file.Goals as goal

pub returns-then-is_closed-clause-answers : goal.returns-then-is_closed-clause-answers
returns-then-is_closed-clause-answers g c =
    let known = g.F.Files.supply c.args.files.now in
    let set = c.args.set in
    let answered = c.answer.result in
    let closed = c.is_closed.ensures.0 c.if-is_closed.true in
    answers_rightly (λ told. answered ≡ Ok told)
    (IsOfFile (IsRightOf g.J.Job c.args.job.now) known set.now) _ _ _ _ _ _ _ _ _ _
    (answers_alone _ _ _ _ _ _ _ (IsNamedUnread (λ unread. unread ≡ set.now) _ _) _ _ _ _ _
    (inl (omega (arith, c.close.ensures.failures, c.open-file.ensures.unread), refl))
    (c.write_answer.ensures (g.F.Files.failures c.args.files.now)))
    (λ answer is. (
      Unopened,
      closed_known (known set.now) _ c.open-file.ensures.supply (may_be_closed _ closed),
      (set, refl, found _ answered answer c.answer.ensures is),
    ))
    (omega (arith, c.close.ensures.failures, c.open-file.ensures.unread))

pub returns-clause-answers : goal.returns-clause-answers
returns-clause-answers g c =
    let supply = g.F.File.Source.supply c.open-file.result in
    let known = g.F.Files.supply c.args.files.now in
    let name = c.args.set.now in
    let job = c.args.job.now in
    answers_rightly (IsAnswerFor g.J.Job job name supply)
    (IsOfFile (IsRightOf g.J.Job job) known name) _ _ _ _ _ _ _ _ _ _
    (answers_unread _ _ _ _ _ _ _ (λ unread. unread ≡ name) _ _ _ _ _ _ _ _ _ _
    c.deliver-status.ensures (rw c.failures-failures.ensures at c.tell_if_unread.ensures)
    (omega (arith, c.close-2.ensures.failures)))
    (read_known g.J.Job job name known supply c.open-file.ensures.supply)
    (omega (arith, c.close-2.ensures.failures, c.open-file.ensures.unread))
