use Rattle.std.proofs.Common.{◌≡◌, ◌∙◌, List, ap, subst, sym}
use Rattle.std.specs.List.{filter}
use Rattle.std.proofs.lemmas.Result.{IfOk-weaker}
use Rattle.model.specs.declared.set.Guard.{Guard}
use Rattle.verifier_orders.specs.declared.names.Edge.{Edge}
use Rattle.verifier_orders.specs.Orders.{ArePaired, is_in}
use Rattle.verifier_orders.proofs.InPairs.{paired}
use Rattle.verifier_orders.proofs.paired.paired_locks.Goals as goal

pub returns : goal.returns
returns c =
    let set = c.args.accepted.now in
    let driver = c.args.driver in
    let locks = c.args.locks.now in
    IfOk-weaker c.locks_in.result
    (λ found. found.items ≡ filter (is_in c.as_slice.result.now) locks)
    (λ found. ArePaired set driver found.items)
    (λ found is.
    subst (λ (xs : List Guard). ArePaired set driver xs)
    (sym (is ∙ ap (λ (pairs : List Edge). filter (is_in pairs) locks) c.as_slice.ensures.value))
    (paired set driver c.in_ok-pairs.pairs.items locks c.requires.ordered
    (c.in_ok-pairs.ensures {u = tt})))
    c.locks_in.ensures
