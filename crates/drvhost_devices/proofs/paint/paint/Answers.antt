use Rattle.std.proofs.Common.{◌∙◌, ◌++◌, ap, sym}
use Rattle.drvhost_devices.proofs.Painting.{painted_whole, unpainted_whole}
use Rattle.drvhost_devices.proofs.paint.paint.Goals as goal

pub returns-then-has_escape : goal.returns-then-has_escape
returns-then-has_escape c =
    unpainted_whole c.args.text.now _ (sym c.has_escape.ensures ∙ c.if-has_escape.true)
    (c.in_ok-extend_from_slice.ensures.items
    ∙ ap (λ x. x ++ c.args.text.now) c.new-painted.ensures.items)

pub returns : goal.returns
returns c =
    painted_whole c.args.text.now _ (sym c.has_escape.ensures ∙ c.if-has_escape.false)
    (rw c.new-painted.ensures.items at c.in_ok-paint_lines.ensures)
