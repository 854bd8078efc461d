use Rattle.std.proofs.Common.{◌≡◌, Ok, arith}
use Rattle.answer.specs.Delivered.{IsAnswerFor}
use Rattle.answer.proofs.Delivering.{answers_rightly, found, unread}
use Rattle.answer.proofs.deliver.deliver.Goals as goal

pub returns-in-Ok : goal.returns-in-Ok
returns-in-Ok g c =
    let before = g.S.Source.failures c.args.file.now in
    let supply = g.S.Source.supply c.args.file.now in
    let read = rw c.in-Ok.is at c.read_whole.ensures.reads in
    let answered = rw c.as_slice.ensures.value at c.answer_to.ensures in
    answers_rightly (λ told. c.answer_to.result ≡ Ok told)
    (IsAnswerFor g.J.Job c.args.job.now c.args.name.now supply) before before before _ _ _ _ _ _ _
    (c.write_answer.ensures before)
    (λ told is. (
      c.in-Ok.bytes.items,
      c.in-Ok.ensures.bytes,
      found _ c.answer_to.result told answered is,
    ))
    (omega (arith, read))

pub returns-in-Err : goal.returns-in-Err
returns-in-Err g c =
    unread _ c.in-Err.fault _ _ _ _ _ _ c.in-Err.ensures.fault
    (rw c.in-Err.is at c.read_whole.ensures.reads) c.tell_unread.ensures.told
    c.tell_unread.ensures.status
