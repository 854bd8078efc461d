use Rattle.devqueue.proofs.Rows.{moved_within}
use Rattle.devqueue.proofs.row.move_up_behind.Goals as goal

pub returns-clause-moved : goal.returns-clause-moved
returns-clause-moved c =
    moved_within c.args.numbers.now.items c.deref_mut.result.now c.move_up.new.numbers
    c.args.gone c.args.place c.args.numbers.now.len c.deref_mut.ensures.value
    c.deref_mut.ensures.len c.requires c.move_up.ensures.length c.move_up.ensures.moved
