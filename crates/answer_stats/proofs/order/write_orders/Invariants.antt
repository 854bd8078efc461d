use Rattle.std.proofs.Common.{◌≡◌, ◌++◌, drop}
use Rattle.json.specs.Tree.{items_tokens}
use Rattle.answer_stats.specs.Order.{orders_json}
use Rattle.answer_stats.proofs.order.write_orders.Given as goal

abbrev pub invariant-loop-driver : goal.invariant-loop-driver
invariant-loop-driver l =
    (l.out.before ≡ l.fn.out.before)
    × (l.out.tokens ++ items_tokens (orders_json l.driver (drop l.driver l.orders))
    ≡ l.fn.out.tokens ++ items_tokens (orders_json 0 l.orders))
