use Rattle.std.proofs.Common.{refl}
use Rattle.std.proofs.lemmas.Result.{err_from_is_err_and}
use Rattle.answer_runs.proofs.host.serve.Goals as goal

pub returns-in_err-note_standing-in-Ok-clause-fault :
    goal.returns-in_err-note_standing-in-Ok-clause-fault
returns-in_err-note_standing-in-Ok-clause-fault g c =
    let p = err_from_is_err_and c.from_residual.result c.from_residual.ensures.1 in
    rw (p.1, p.2, c.in_err-note_standing-in-Ok.ensures.fault) refl
