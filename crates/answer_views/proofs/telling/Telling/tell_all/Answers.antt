use Rattle.answer_views.proofs.ToldAnswers.{run_told}
use Rattle.answer_views.proofs.telling.Telling.tell_all.Goals as goal

pub returns : goal.returns
returns c =
    let (past, runs, shown, told) = c.in-Ok.ensures in
    let (found, are, any) = c.in_ok-amiss.ensures.found in
    let (words, text) = c.in_ok-amiss.ensures.audited in
    rw (c.end_of.ensures, c.fails-strictly.ensures, text)
    (run_told _ _ _ _ past _ _ _ _ _ words found runs shown told c.requires.detail are any)
