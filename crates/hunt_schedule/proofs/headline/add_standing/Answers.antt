use Rattle.std.proofs.Common.{codes}
use Rattle.hunt_schedule.proofs.Pieces.{four}
use Rattle.hunt_schedule.specs.Headline.{each_between}
use Rattle.hunt_schedule.proofs.headline.add_standing.Goals as goal

pub returns : goal.returns
returns c =
    rw (
      c.in_ok-add_each-3.ensures,
      c.as_slice-devices.ensures.value,
      c.in_ok-add_each-2.ensures,
      c.as_slice-2.ensures.value,
      c.in_ok-add_each.ensures,
      c.as_slice.ensures.value,
      c.in_ok-add.ensures,
    )
    (four c.args.line.now.items (codes "not at rest")
    (each_between (codes "; thread ") c.args.standing.now.threads.items (codes " is busy"))
    (each_between (codes "; packet ") c.args.standing.now.packets.items (codes " is live"))
    (each_between (codes "; device ") c.args.standing.now.devices.items
    (codes " is busy for StartIo")))
