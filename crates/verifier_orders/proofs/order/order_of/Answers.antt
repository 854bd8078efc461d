use Rattle.std.proofs.Common.{◌∙◌, List, ap, subst, sym}
use Rattle.model.specs.Sound.{IsSound}
use Rattle.verifier_orders.specs.declared.names.Edge.{Edge}
use Rattle.verifier_orders.specs.declared.ranking.NumberedEdge.{NumberedEdge}
use Rattle.verifier_orders.specs.Cycle.{IsLeastCycle}
use Rattle.verifier_orders.specs.Names.{all_named}
use Rattle.verifier_orders.specs.Orders.{IsShortestCycle}
use Rattle.verifier_orders.specs.Ranking.{AreWithin}
use Rattle.verifier_orders.proofs.Least.{shortest_named}
use Rattle.verifier_orders.proofs.Ordering.{cycle_shown, cycle_within, no_order}
use Rattle.verifier_orders.proofs.order.order_of.Goals as goal

pub edges_named-requires : goal.edges_named-requires
edges_named-requires c =
    subst AreWithin (sym c.as_slice-in-Err-2.ensures.value)
    (cycle_within c.in_ok-edges.edges.items c.in_ok-cycle-in-Err.cycle.items
    (c.in_ok-edges.ensures {u = tt}).within
    (subst (λ (xs : List NumberedEdge). IsLeastCycle xs c.in_ok-cycle-in-Err.cycle.items)
    c.as_slice-in-Err.ensures.value (c.in_ok-cycle-in-Err.ensures {u = tt})))

pub returns : goal.returns
returns c =
    let least : IsLeastCycle c.in_ok-edges.edges.items c.in_ok-cycle-in-Err.cycle.items =
    subst (λ (xs : List NumberedEdge). IsLeastCycle xs c.in_ok-cycle-in-Err.cycle.items)
    c.as_slice-in-Err.ensures.value (c.in_ok-cycle-in-Err.ensures {u = tt}) in
    let sound : IsSound c.args.accepted.now =
    subst IsSound c.set.ensures.same c.drivers-drivers.ensures.sound in (
      subst (λ (xs : List Edge). IsShortestCycle c.args.accepted.now c.args.driver xs)
          (sym (ap all_named c.as_slice-in-Err-2.ensures.value)
          ∙ sym (c.in_ok-edges_named-in-Err.ensures {u = tt}))
          (shortest_named c.args.accepted.now c.set.ensures.typable sound c.args.driver
          c.in_ok-edges.edges.items (c.in_ok-edges.ensures {u = tt})
          c.in_ok-cycle-in-Err.cycle.items least),
      no_order c.args.accepted.now c.set.ensures.typable sound c.args.driver
          c.in_ok-cycle-in-Err.cycle.items
          (cycle_shown c.args.accepted.now c.args.driver c.in_ok-edges.edges.items
          c.in_ok-cycle-in-Err.cycle.items (c.in_ok-edges.ensures {u = tt}) least),
    )
