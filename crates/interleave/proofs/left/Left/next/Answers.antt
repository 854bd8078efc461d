use Rattle.std.proofs.Common.{◌∙◌, sym}
use Rattle.interleave.proofs.Taking.{next_line}
use Rattle.interleave.proofs.left.Left.next.Goals as goal

pub returns : goal.returns
returns c =
    rw (← c.self.view_is, c.behind-self-inside.ensures)
    (next_line c.self.inside.rest.now c.in_ok-line.line.now c.next.new.self
    (sym c.of.ensures.lines ∙ c.in_ok-line.ensures))
