use Rattle.std.proofs.Common.{[], arith}
use Rattle.std.proofs.lemmas.Result.{err_from_is_err_and}
use Rattle.answer_views.proofs.drawing.PainterObserverChecked.watch.Goals as goal

pub returns-in_err-paint-clause-breaks : goal.returns-in_err-paint-clause-breaks
returns-in_err-paint-clause-breaks c =
    let p = err_from_is_err_and c.from_residual.result c.from_residual.ensures.1 in
    rw p.1
    (record {
      told = [];
      up = tt;
      few = omega arith;
      are = λ threads past shows. tt;
      breaks = λ start threads past shows told. p.2;
    })
