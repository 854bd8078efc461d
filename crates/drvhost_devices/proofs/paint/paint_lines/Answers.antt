use Rattle.std.proofs.Common.{◌∙◌, sym}
use Rattle.drvhost_devices.proofs.Painting.{lines_begin, lines_end, lines_more, none_left}
use Rattle.drvhost_devices.proofs.paint.paint_lines.Goals as goal

pub loop-rest-init : goal.loop-rest-init
loop-rest-init c = lines_begin c.args.text.now _ c.requires

pub loop-rest-preserved : goal.loop-rest-preserved
loop-rest-preserved c =
    lines_more c.args.text.now _ c.split_line.result.0.now c.split_line.result.1.now _ _ _
    c.loop-rest.invariant c.split_line.ensures.parts c.split_line.ensures.line
    c.in_ok-paint_line.ensures

pub returns : goal.returns
returns c =
    lines_end c.args.text.now _ _ _ c.loop-rest.invariant
    (none_left _ (sym c.is_empty.ensures ∙ c.loop-rest-test.false))
