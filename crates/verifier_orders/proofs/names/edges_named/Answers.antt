use Rattle.verifier_orders.proofs.Naming.{named_more}
use Rattle.verifier_orders.proofs.names.edges_named.Goals as goal

pub loop-place-preserved : goal.loop-place-preserved
loop-place-preserved c =
    rw (c.in_ok-push.ensures.items, c.lock_named-held.ensures, c.lock_named-taken.ensures)
    (named_more c.args.edges.now c.loop-place.place _ c.loop-place.named.items
    c.loop-place-test.true c.loop-place.invariant)
