use Rattle.std.proofs.lemmas.Result.{err_from_is_err_and}
use Rattle.answer_runs.proofs.Together.{steps_break, told_added, told_breaks}
use Rattle.answer_runs.proofs.lined.add_told.Goals as goal

pub returns-in_err-add_replies-clause-broken : goal.returns-in_err-add_replies-clause-broken
returns-in_err-add_replies-clause-broken g c =
    let p = err_from_is_err_and c.from_residual.result c.from_residual.ensures.1 in
    rw p.1
    (steps_break g.L.ReplyLines.line _ c.args.replies.now _ _ _
    c.in_err-add_replies.ensures.broken)

pub returns-in_err-add_replies-2-clause-broken : goal.returns-in_err-add_replies-2-clause-broken
returns-in_err-add_replies-2-clause-broken g c =
    let p = err_from_is_err_and c.from_residual-in_err-add_replies-2.result
    c.from_residual-in_err-add_replies-2.ensures.1 in
    rw p.1
    (told_breaks g.L.ReplyLines.line _ _ c.args.replies.now _ _ _ _ _
    c.in_ok-add_replies.ensures.number c.in_ok-add_replies.ensures.added
    c.in_err-add_replies-2.ensures.broken)

pub returns-clause-added : goal.returns-clause-added
returns-clause-added g c =
    told_added g.L.ReplyLines.line _ _ c.args.replies.now _ _ _ _ _ _
    c.in_ok-add_replies.ensures.number c.in_ok-add_replies.ensures.added
    c.in_ok-add_replies-2.ensures.added
