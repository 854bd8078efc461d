use Rattle.std.proofs.Common.{◌≡◌, ◌++◌, drop}
use Rattle.json.specs.Tree.{items_tokens}
use Rattle.answer_stats.specs.Order.{locks_json}
use Rattle.answer_stats.proofs.order.write_locks.Given as goal

abbrev pub invariant-loop-lock : goal.invariant-loop-lock
invariant-loop-lock l =
    (l.out.before ≡ l.fn.out.before)
    × (l.out.tokens ++ items_tokens (locks_json (drop l.lock-index l.locks))
    ≡ l.fn.out.tokens ++ items_tokens (locks_json l.locks))
