use Rattle.verifier_orders.proofs.Ways.{back_more, some_on}
use Rattle.verifier_orders.proofs.cycle.one_back.Goals as goal

pub loop-lock-preserved : goal.loop-lock-preserved
loop-lock-preserved c =
    back_more c.args.edges.now c.args.ahead.now c.loop-lock.behind c.loop-lock.lock
    c.loop-lock.invariant c.loop-lock-test.true c.is_some.result
    (some_on c.args.edges.now c.args.ahead.now c.loop-lock.lock c.edge_on.result
    c.edge_on.ensures.some c.edge_on.ensures.none c.is_some.result c.is_some.ensures)
