use Rattle.std.proofs.Common.{◌≡◌, Ok, arith}
use Rattle.answer.proofs.Delivering.{answers_rightly, found, unread}
use Rattle.answer_views.specs.Told.{IsTellOf}
use Rattle.drvhost_many.specs.Painted.{IsShown}
use Rattle.drvhost_words.proofs.telling.tell_shown.Goals as goal

pub returns-in-Ok-clause-answers : goal.returns-in-Ok-clause-answers
returns-in-Ok-clause-answers g c =
    let shown = c.args.shown in
    let Q = IsShown shown.coloring (IsTellOf shown.verification shown.manner
    (g.S.Source.supply c.args.set.now) (g.P.Source.supply c.args.schedule.now)) in
    let before = g.S.Source.failures c.args.set.now in
    let read = c.in-Ok.ensures.reads in
    answers_rightly (λ told. Ok c.in-Ok.told ≡ Ok told) Q before before _ _ _ _ _ _ _ _
    (c.write_answer.ensures before)
    (λ told is. found Q (Ok c.in-Ok.told) told c.in-Ok.ensures.told is)
    (omega (arith, read))

pub returns-in-Err-clause-answers : goal.returns-in-Err-clause-answers
returns-in-Err-clause-answers g c =
    unread _ c.in-Err.fault _ _ _ _ _ _ c.in-Err.ensures.fault c.in-Err.ensures.reads
    c.tell_unread.ensures.told c.tell_unread.ensures.status
