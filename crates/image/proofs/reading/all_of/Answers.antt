use Rattle.image.specs.Reading.{all_at}
use Rattle.image.proofs.InOrder.{goes_on, ends, is_done}
use Rattle.image.proofs.reading.all_of.Goals as goal

pub returns-in-Err : goal.returns-in-Err
returns-in-Err g c =
    ends (g.P.Part.at c.args.within.now) c.in-Err.fault c.loop-number.all.items c.args.count
    c.loop-number.number c.loop-number.rest.now
    (all_at (g.P.Part.at c.args.within.now) 0 c.args.count c.args.bytes.now)
    c.loop-number-test.true c.in-Err.ensures c.loop-number.invariant

pub loop-number-preserved : goal.loop-number-preserved
loop-number-preserved g c =
    rw c.in_ok-push.ensures.items
    (goes_on (g.P.Part.at c.args.within.now) c.loop-number.all.items c.args.count
    c.loop-number.number c.loop-number.rest.now c.in-Ok.found.0 c.in-Ok.found.1.now
    (all_at (g.P.Part.at c.args.within.now) 0 c.args.count c.args.bytes.now)
    c.loop-number-test.true c.in-Ok.ensures c.loop-number.invariant)

pub returns : goal.returns
returns g c =
    is_done (g.P.Part.at c.args.within.now) c.loop-number.all.items c.args.count
    c.loop-number.number c.loop-number.rest.now
    (all_at (g.P.Part.at c.args.within.now) 0 c.args.count c.args.bytes.now)
    c.loop-number-test.false c.loop-number.invariant
