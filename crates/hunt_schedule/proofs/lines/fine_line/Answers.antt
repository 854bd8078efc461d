use Rattle.std.proofs.Common.{codes, decimal}
use Rattle.hunt_schedule.proofs.Pieces.{eight}
use Rattle.hunt_schedule.specs.Lines.{line_end}
use Rattle.hunt_schedule.proofs.lines.fine_line.Goals as goal

pub returns : goal.returns
returns c =
    rw (
      c.in_ok-add_end.ensures,
      c.in_ok-add-4.ensures,
      c.in_ok-add_number-3.ensures,
      c.in_ok-add-3.ensures,
      c.in_ok-add_number-2.ensures,
      c.in_ok-add-2.ensures,
      c.in_ok-add_number.ensures,
      c.in_ok-add.ensures,
      c.new-line.ensures.items,
    )
    (eight (codes "none in runs of up to ") (decimal c.args.events) (codes " events and ")
    (decimal c.args.bounds.packets) (codes " packets in all: ") (decimal c.args.worlds)
    (codes " worlds seen, more left") (line_end c.args.refused))
