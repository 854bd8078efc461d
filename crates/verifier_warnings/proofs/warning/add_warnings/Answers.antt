use Rattle.std.specs.Prelude.{string_bytes}
use Rattle.verifier_warnings.proofs.Warned.{line_added}
use Rattle.verifier_warnings.proofs.warning.add_warnings.Goals as goal

pub loop-order-preserved : goal.loop-order-preserved
loop-order-preserved c =
    line_added c.args.orders.now c.loop-order.order-index c.order-item.result
    (string_bytes c.loop-order.lines) (string_bytes c.add_warning.new.lines)
    c.loop-order-test.true c.order-item.is c.loop-order.invariant
    (c.in_ok-add_warning.ensures {u = tt})
