use Rattle.devqueue.proofs.Rows.{moved_up}
use Rattle.devqueue.proofs.row.move_up.Goals as goal

pub returns-clause-moved : goal.returns-clause-moved
returns-clause-moved c =
    moved_up c.args.numbers.now c.args.place c.rotate_right.new.self c.requires
    c.rotate_right.ensures.after
