use Rattle.std.proofs.Common.{◌∙◌, ◌++◌, ap, take}
use Rattle.answer_views.proofs.ToldLines.{parts_added}
use Rattle.answer_views.proofs.page.add_headed.Goals as goal

pub returns : goal.returns
returns c =
    parts_added c.args.text.now.items _ _ _ _ c.args.line.now c.args.front.now c.args.rest.now
    (c.in_ok-extend_from_slice.ensures.items
    ∙ ap (λ n. c.args.text.now.items ++ take n c.args.line.now) c.saturating_sub.ensures)
    c.in_ok-extend_from_slice-2.ensures.items c.in_ok-extend_from_slice-3.ensures.items
    c.in_ok-push.ensures.items
