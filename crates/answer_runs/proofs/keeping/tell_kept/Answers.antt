use Rattle.std.proofs.Common.{List, arith, inl, inr, refl, ℕ, ◌≡◌}
use Rattle.std.proofs.lemmas.Result.{err_from_is_err_and}
use Rattle.drvhost_devices.specs.Answer.{Answer}
use Rattle.drvhost_devices.proofs.Writing.{keeps_same}
use Rattle.answer_runs.specs.Keeping.{IsServedWith, WithText, listed_as}
use Rattle.answer_runs.specs.Served.{served_as}
use Rattle.answer_runs.proofs.Kept.{kept_right, kept_text, touches_rightly, with_text}
use Rattle.answer_runs.proofs.RingsTold.{told_rightly}
use Rattle.answer_runs.proofs.keeping.tell_kept.Goals as goal

pub returns-in_err-history-clause-goes : goal.returns-in_err-history-clause-goes
returns-in_err-history-clause-goes g c = λ set commands h noted.
    let p = err_from_is_err_and c.from_residual.result
    c.from_residual.ensures.1 in
    rw (p.1, p.2, c.in_err-history.ensures.fault) (keeps_same (g.O.Sink.contents c.args.out.now))

pub returns-in_err-history-clause-touched : goal.returns-in_err-history-clause-touched
returns-in_err-history-clause-touched g c = λ set commands h noted.
    let p = err_from_is_err_and c.from_residual.result
    c.from_residual.ensures.1 in
    rw (p.1, p.2, c.in_err-history.ensures.fault) (inl (refl, inr (inl refl)))

pub returns-in_err-history-clause-reads : goal.returns-in_err-history-clause-reads
returns-in_err-history-clause-reads g c =
    let p = err_from_is_err_and c.from_residual.result
    c.from_residual.ensures.1 in
    rw (p.1, p.2, c.in_err-history.ensures.fault) refl

pub returns-in_err-history-clause-writes : goal.returns-in_err-history-clause-writes
returns-in_err-history-clause-writes g c =
    let p = err_from_is_err_and c.from_residual.result
    c.from_residual.ensures.1 in
    rw (p.1, p.2, c.in_err-history.ensures.fault) (omega arith)

pub returns-clause-goes : goal.returns-clause-goes
returns-clause-goes g c = λ set commands h noted.
    let n = c.args.workers in
    let page = c.args.page.now in
    let hosted = c.args.hosted.now in
    let history = c.in_ok-history.history in
    told_rightly
    (λ (answer : Answer).
    answer ≡ listed_as history.listed
    (served_as hosted.told.items hosted.entries page.ringed.items page.words.items))
    (λ (answer : Answer). (text : List ℕ) × IsServedWith n set commands text answer)
    _ _ _ _ _ _
    (λ answer e. (
      history.text.items,
      kept_right set n commands hosted page.ringed.items page.words.items h noted.ringed noted.tells
          history.listed history.text.items c.in_ok-history.ensures.history answer e,
    ))
    c.put.ensures.goes

pub returns-clause-touched : goal.returns-clause-touched
returns-clause-touched g c = λ set commands h noted.
    let n = c.args.workers in
    let page = c.args.page.now in
    let hosted = c.args.hosted.now in
    let history = c.in_ok-history.history in
    let right = IsServedWith n set commands in
    let of : List ℕ → Answer → Type 0 = λ text answer.
    (text ≡ history.text.items)
    × (answer ≡ listed_as history.listed
    (served_as hosted.told.items hosted.entries page.ringed.items page.words.items)) in
    touches_rightly _ (WithText of) (WithText right) _ _ _ _ _
    (with_text of right
    (kept_text set n commands hosted page.ringed.items page.words.items h noted.ringed noted.tells
    history.listed history.text.items c.in_ok-history.ensures.history))
    c.put.ensures.touched
