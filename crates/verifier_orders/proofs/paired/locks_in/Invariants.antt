use Rattle.std.specs.Prelude.{◌≡◌, take}
use Rattle.std.specs.List.{filter}
use Rattle.verifier_orders.specs.Orders.{is_in}
use Rattle.verifier_orders.proofs.paired.locks_in.Given as goal

abbrev pub invariant-loop-lock : goal.invariant-loop-lock
invariant-loop-lock l =
    l.paired.items ≡ filter (is_in l.pairs) (take l.lock-index l.locks)
