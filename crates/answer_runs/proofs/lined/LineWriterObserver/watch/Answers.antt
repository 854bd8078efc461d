use Rattle.std.proofs.Common.{◌∙◌, ◌+◌, [], ◌∷◌, ap, arith, inl, refl, sym}
use Rattle.std.proofs.lemmas.Result.{err_from_is_err_and}
use Rattle.answer_runs.specs.Repeats.{told_by}
use Rattle.answer_runs.proofs.Following.{length_told}
use Rattle.answer_runs.proofs.Lining.{lines_break, lines_on_told, takes_told, up_told}
use Rattle.answer_runs.proofs.lined.LineWriterObserver.watch.Goals as goal

pub add_replies-requires-clause-numbers : goal.add_replies-requires-clause-numbers
add_replies-requires-clause-numbers g c =
    let (start, threads, past, shows, lines, fits) = c.requires.fits in
    omega (arith, lines.numbered, fits, c.if-count-eq1.true)

pub returns-in_err-add_replies-clause-breaks : goal.returns-in_err-add_replies-clause-breaks
returns-in_err-add_replies-clause-breaks g c =
    let p = err_from_is_err_and c.from_residual.result c.from_residual.ensures.1 in
    rw (p.1, p.2)
    (lines_break g.L.ReplyLines g.O.Sink g.M.Machine.set_of g.M.Machine.shows c.args.machine.now
    c.args.event.now _ _ _ (c.answer-reply.result ∷ []) _ c.answer-reply.ensures.are
    (inl refl, tt) c.requires.some refl refl c.in_err-add_replies.ensures.fault
    c.in_err-add_replies.ensures.writes c.in_err-add_replies.ensures.broken)

pub returns-then-count-eq1-clause-tells : goal.returns-then-count-eq1-clause-tells
returns-then-count-eq1-clause-tells g c =
    lines_on_told g.L.ReplyLines g.O.Sink g.M.Machine.set_of g.M.Machine.shows c.args.machine.now
    c.args.event.now _ _ (c.answer-reply.result ∷ []) c.answer-reply.ensures.are
    refl refl c.in_ok-add_replies.ensures.writes c.in_ok-add_replies.ensures.number
    c.in_ok-add_replies.ensures.added

pub add_told-requires-clause-numbers : goal.add_told-requires-clause-numbers
add_told-requires-clause-numbers g c =
    let (start, threads, past, shows, lines, fits) = c.requires.fits in
    omega (arith, lines.numbered, fits, c.repeat-replies.ensures.few)

pub returns-in_err-add_told-clause-breaks : goal.returns-in_err-add_told-clause-breaks
returns-in_err-add_told-clause-breaks g c =
    let p = err_from_is_err_and c.from_residual-in_err-add_told.result
    c.from_residual-in_err-add_told.ensures.1 in
    let r = c.repeat-replies.result in
    rw (p.1, p.2)
    (lines_break g.L.ReplyLines g.O.Sink g.M.Machine.set_of g.M.Machine.shows c.args.machine.now
    c.args.event.now _ _ _ (told_by r) _ c.repeat-replies.ensures.repeats.are
    (up_told r c.repeat-replies.ensures.once)
    (omega (arith, length_told r, c.repeat-replies.ensures.few)) refl refl
    c.in_err-add_told.ensures.fault
    c.in_err-add_told.ensures.writes c.in_err-add_told.ensures.broken)

pub returns-clause-takes : goal.returns-clause-takes
returns-clause-takes g c =
    rw c.is_last-2.ensures
    (takes_told _ _ _ _ _ c.repeat-replies.result c.repeat-replies.ensures.repeats
    c.repeat-replies.ensures.some c.repeat-replies.ensures.once)

pub returns-clause-tells : goal.returns-clause-tells
returns-clause-tells g c =
    let r = c.repeat-replies.result in
    rw (sym (length_told r))
    (lines_on_told g.L.ReplyLines g.O.Sink g.M.Machine.set_of g.M.Machine.shows c.args.machine.now
    c.args.event.now _ _ (told_by r) c.repeat-replies.ensures.repeats.are
    refl refl c.in_ok-add_told.ensures.writes (c.in_ok-add_told.ensures.number
    ∙ ap (λ k. g.L.ReplyLines.number c.args.self.now.page.now + k) (sym (length_told r)))
    c.in_ok-add_told.ensures.added)
