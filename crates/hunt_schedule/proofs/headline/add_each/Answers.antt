use Rattle.std.proofs.Common.{◌<◌, arith, length}
use Rattle.hunt_schedule.proofs.Pieces.{each_further}
use Rattle.hunt_schedule.proofs.headline.add_each.Goals as goal

pub loop-number-preserved : goal.loop-number-preserved
loop-number-preserved c =
    let inside : c.loop-number.number-index < length c.args.numbers.now =
    omega (arith, c.loop-number-test.true) in
    each_further c.args.before.now c.args.numbers.now c.args.after.now _ _ _ _ _ inside
    c.loop-number.invariant c.in_ok-add_numbered.ensures
