use Rattle.std.proofs.Common.{List, inl, inr, refl, subst, ℕ}
use Rattle.std.proofs.lemmas.Result.{err_from_is_err_and}
use Rattle.std.specs.Io.KnownBytes.{Appends}
use Rattle.drvhost_devices.specs.Device.{TakesBeginning}
use Rattle.answer_runs.specs.Served.{served_as}
use Rattle.answer_runs.proofs.Kept.{history_broken, history_told, kept_broken, kept_failed, kept_told}
use Rattle.answer_runs.proofs.keeping.put.Goals as goal

pub returns-in_err-end-clause-goes : goal.returns-in_err-end-clause-goes
returns-in_err-end-clause-goes g c =
    let p = err_from_is_err_and c.from_residual.result c.from_residual.ensures.1 in
    let hosted = c.args.hosted.now in
    let page = c.args.page.now in
    rw (p.1, p.2, c.in_err-end.ensures.fault)
    (kept_failed c.args.history.now.listed
    (served_as hosted.told.items hosted.entries page.ringed.items page.words.items) _ _
    (rw (c.in_err-end.was, c.in_err-end.ensures.fault) at c.tell_hosted.ensures.goes))

pub returns-in_err-end-clause-touched : goal.returns-in_err-end-clause-touched
returns-in_err-end-clause-touched g c =
    let p = err_from_is_err_and c.from_residual.result c.from_residual.ensures.1 in
    rw (p.1, p.2, c.in_err-end.ensures.fault) (inl (refl, inl refl))

pub returns-in_err-write_bytes-clause-goes : goal.returns-in_err-write_bytes-clause-goes
returns-in_err-write_bytes-clause-goes g c =
    let p = err_from_is_err_and c.from_residual-in_err-write_bytes.result
    c.from_residual-in_err-write_bytes.ensures.1 in
    let hosted = c.args.hosted.now in
    let page = c.args.page.now in
    rw (p.1, p.2, c.in_err-write_bytes.ensures.fault)
    (kept_broken c.args.history.now.listed
    (served_as hosted.told.items hosted.entries page.ringed.items page.words.items) _ _ _ _
    (rw c.in_ok-end.was at c.tell_hosted.ensures.goes))

pub returns-in_err-write_bytes-clause-touched : goal.returns-in_err-write_bytes-clause-touched
returns-in_err-write_bytes-clause-touched g c =
    let p = err_from_is_err_and c.from_residual-in_err-write_bytes.result
    c.from_residual-in_err-write_bytes.ensures.1 in
    let hosted = c.args.hosted.now in
    let page = c.args.page.now in
    let text = c.args.history.now.text.items in
    let B : List ℕ → Type 0 =
    TakesBeginning (g.W.Sink.contents c.args.target.now) (g.W.Sink.contents c.write_bytes.new.sink) in
    rw (p.1, p.2, c.in_err-write_bytes.ensures.fault)
    (inr (history_broken c.args.history.now.listed
    (served_as hosted.told.items hosted.entries page.ringed.items page.words.items) _ _ _ _
    (rw c.in_ok-end.was at c.tell_hosted.ensures.goes) text _ _
    (subst B c.as_slice.ensures.value c.in_err-write_bytes.ensures.written)))

pub returns-clause-goes : goal.returns-clause-goes
returns-clause-goes g c =
    let hosted = c.args.hosted.now in
    let page = c.args.page.now in
    kept_told c.args.history.now.listed
    (served_as hosted.told.items hosted.entries page.ringed.items page.words.items) _ _ _ _
    (rw c.in_ok-end.was at c.tell_hosted.ensures.goes) _ c.end_with.ensures

pub returns-clause-touched : goal.returns-clause-touched
returns-clause-touched g c =
    let hosted = c.args.hosted.now in
    let page = c.args.page.now in
    let text = c.args.history.now.text.items in
    let A : List ℕ → Type 0 =
    Appends (g.W.Sink.contents c.args.target.now) (g.W.Sink.contents c.write_bytes.new.sink) in
    inr (history_told c.args.history.now.listed
    (served_as hosted.told.items hosted.entries page.ringed.items page.words.items) _ _ _ _
    (rw c.in_ok-end.was at c.tell_hosted.ensures.goes) text _ _ _ c.end_with.ensures
    (subst A c.as_slice.ensures.value c.in_ok-write_bytes.ensures.written))
