use Rattle.std.proofs.Common.{◌∙◌, sym}
use Rattle.drvhost_devices.proofs.Painting.{plain_line, span_line}
use Rattle.drvhost_devices.proofs.paint.paint_line.Goals as goal

pub returns-in_default : goal.returns-in_default
returns-in_default c =
    plain_line c.args.line.now _ _ c.requires (sym c.span_of.ensures ∙ c.in_default.is)
    c.in_ok-extend_from_slice.ensures.items

pub returns : goal.returns
returns c =
    span_line c.in-Some.span c.args.line.now _ _ _ _ _ _ _ c.min.result c.requires
    (sym c.span_of.ensures ∙ c.in-Some.is) c.min.ensures
    c.split_at.ensures.front c.split_at.ensures.back
    (rw c.begins.ensures at c.in_ok-extend_from_slice-2.ensures.items)
    c.in_ok-extend_from_slice-3.ensures.items c.in_ok-extend_from_slice-4.ensures.items
    c.in_ok-extend_from_slice-5.ensures.items
