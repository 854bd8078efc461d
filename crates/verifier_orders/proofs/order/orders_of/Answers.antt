use Rattle.std.proofs.Common.{rules}
use Rattle.verifier_orders.proofs.AllOrdered.{all_ordered}
use Rattle.verifier_orders.proofs.order.orders_of.Goals as goal

pub returns-clause-all : goal.returns-clause-all
returns-clause-all c =
    all_ordered c.args.accepted.now c.loop-driver.orders.items (search rules)
