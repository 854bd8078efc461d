use Rattle.std.specs.Prelude.{string_bytes}
use Rattle.verifier_warnings.proofs.Cycles.{all_told, order_told}
use Rattle.verifier_warnings.proofs.orders.add_cycles.Goals as goal

pub loop-order-preserved : goal.loop-order-preserved
loop-order-preserved c =
    order_told c.args.orders.now c.loop-order.order-index c.order-item.result
    (string_bytes c.args.prose.now) (string_bytes c.loop-order.prose) (string_bytes c.add_if_cycle.new.prose) c.loop-order.some
    c.in_ok-cycle.cycle c.loop-order-test.true c.order-item.is c.loop-order.invariant
    (c.in_ok-cycle.ensures {u = tt})

pub returns : goal.returns
returns c =
    all_told c.args.orders.now c.loop-order.order-index (string_bytes c.args.prose.now)
    (string_bytes c.loop-order.prose) c.loop-order.some c.loop-order-test.false c.loop-order.invariant
