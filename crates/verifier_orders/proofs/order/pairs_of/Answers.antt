use Rattle.std.proofs.Common.{List, subst, sym}
use Rattle.model.specs.Sound.{IsSound}
use Rattle.verifier_orders.specs.declared.names.Edge.{Edge}
use Rattle.verifier_orders.specs.Orders.{ArePairs}
use Rattle.verifier_orders.proofs.Pairs.{pairs_told}
use Rattle.verifier_orders.proofs.order.pairs_of.Goals as goal

pub returns : goal.returns
returns c =
    let sound : IsSound c.args.accepted.now =
    subst IsSound c.set.ensures.same c.drivers-drivers.ensures.sound in
    subst (λ (xs : List Edge). ArePairs c.args.accepted.now c.args.driver xs)
    (sym (c.in_ok-pairs.ensures {u = tt}))
    (pairs_told c.args.accepted.now c.set.ensures.typable sound c.args.driver
    c.args.edges.now c.requires)
