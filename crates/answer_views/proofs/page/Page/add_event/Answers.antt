use Rattle.std.proofs.Common.{◌∙◌, sym}
use Rattle.answer_views.specs.Told.{has_occurred}
use Rattle.answer_views.proofs.ToldLines.{lines_of, nothing_told}
use Rattle.answer_views.proofs.page.Page.add_event.Goals as goal

pub returns-then-is_left_out-clause-told : goal.returns-then-is_left_out-clause-told
returns-then-is_left_out-clause-told c =
    nothing_told c.args.self.now.detail c.args.self.now.number
    (has_occurred c.args.happened.now) c.args.self.now.text.items
    (sym c.is_left_out.ensures ∙ c.if-is_left_out.true)

pub returns-clause-told : goal.returns-clause-told
returns-clause-told c =
    lines_of c.end_line.result c.args.self.now.detail c.args.self.now.number
    (has_occurred c.args.happened.now) _ _
    (sym c.is_left_out.ensures ∙ c.if-is_left_out.false)
    (rw c.begin_line-head.ensures at c.end_line.ensures.told)
