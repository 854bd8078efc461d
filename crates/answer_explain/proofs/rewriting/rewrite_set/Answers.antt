use Rattle.std.proofs.Common.{[]}
use Rattle.std.proofs.lemmas.Result.{err_from_is_err_and}
use Rattle.drvhost_devices.specs.Answer.{IsRewritten}
use Rattle.drvhost_devices.proofs.Doing.{set_unread}
use Rattle.answer_explain.proofs.rewriting.rewrite_set.Goals as goal

pub returns-in_err-image-clause-goes : goal.returns-in_err-image-clause-goes
returns-in_err-image-clause-goes g c =
    let p = err_from_is_err_and c.from_residual.result c.from_residual.ensures.1 in
    let held = g.S.Source.supply c.args.set.now in
    rw (p.1, p.2)
    (set_unread IsRewritten held (g.O.Sink.contents c.args.out.now) [] [] c.in_err-image.field-0.0
    c.in_err-image.ensures.image)
