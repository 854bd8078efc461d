use Rattle.std.proofs.Common.{◌≡◌, ◌+◌, suc, subst, Bool, arith}
use Rattle.verifier_orders.specs.Edges.{IsAdded, edge}
use Rattle.verifier_orders.proofs.edges.add_from.Goals as goal

pub loop-held-preserved : goal.loop-held-preserved
loop-held-preserved c =
    let next : c.loop-held.held + 1 ≡ suc c.loop-held.held = omega arith in
    rw next (
      c.loop-held.edges.items,
      c.loop-held.invariant,
      subst (λ (b : Bool). IsAdded b
          (edge c.loop-held.held c.args.taken c.args.routine c.args.at) c.loop-held.edges.items
          c.add_if.new.edges.items) c.holds.ensures (c.in_ok-add_if.ensures {u = tt}),
    )
