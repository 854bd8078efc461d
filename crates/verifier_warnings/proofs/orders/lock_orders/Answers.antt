use Rattle.verifier_warnings.proofs.orders.lock_orders.Goals as goal

pub returns : goal.returns
returns c = c.order_lines.ensures
