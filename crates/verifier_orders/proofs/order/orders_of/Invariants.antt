use Rattle.verifier_orders.specs.Orders.{AreLockOrders}
use Rattle.verifier_orders.proofs.order.orders_of.Given as goal

abbrev pub invariant-loop-driver : goal.invariant-loop-driver
invariant-loop-driver l = AreLockOrders l.accepted l.driver l.orders.items
