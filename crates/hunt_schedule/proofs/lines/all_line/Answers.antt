use Rattle.std.proofs.Common.{codes, decimal}
use Rattle.hunt_schedule.proofs.Pieces.{seven}
use Rattle.hunt_schedule.proofs.lines.all_line.Goals as goal

pub returns : goal.returns
returns c =
    rw (
      c.in_ok-add-4.ensures,
      c.in_ok-add_number-3.ensures,
      c.in_ok-add-3.ensures,
      c.in_ok-add_number-2.ensures,
      c.from.ensures,
      c.in_ok-add-2.ensures,
      c.in_ok-add_number.ensures,
      c.in_ok-add.ensures,
      c.new-line.ensures.items,
    )
    (seven (codes "none: all ") (decimal c.args.worlds) (codes " worlds of ")
    (decimal c.args.bounds.threads) (codes " threads and ") (decimal c.args.bounds.packets)
    (codes " packets seen\n"))
