use Rattle.verifier_orders.proofs.Walking.{some_cycle}
use Rattle.verifier_orders.proofs.Ways.{least, then_ok}
use Rattle.verifier_orders.proofs.cycle.shortest_cycle.Goals as goal

pub returns-in-Some : goal.returns-in-Some
returns-in-Some c =
    then_ok c.lead_back.result c.lead_back.ensures
    (λ cycle is. least c.args.edges.now c.in-Some.first c.loop-more.more cycle.items
    c.in-Some.ensures.some c.loop-more.invariant is)

pub unreachable-requires : goal.unreachable-requires
unreachable-requires c =
    some_cycle c.args.edges.now c.args.places.now c.loop-more.more c.requires.within
    c.requires.stuck c.requires.some c.loop-more-test.false c.loop-more.invariant
