use Rattle.std.proofs.Common.{◌≡◌, ◌+◌, ◌-◌, ◌++◌, ℕ, List, [], ◌∷◌, arith, subst, sym}
use Rattle.verifier_orders.specs.declared.ranking.NumberedEdge.{NumberedEdge}
use Rattle.verifier_orders.specs.Cycle.{HasWay}
use Rattle.verifier_orders.proofs.Ways.{IsBegun, approaches, goes_on, none_on, on_there}
use Rattle.verifier_orders.proofs.cycle.lead_back.Goals as goal

pub unreachable-requires : goal.unreachable-requires
unreachable-requires c =
    let next : c.args.more - c.loop-done.done ≡ c.args.more - 1 - c.loop-done.done + 1 =
    omega (arith, c.loop-done-test.true) in
    none_on c.args.edges.now c.locks_behind-ahead.result c.loop-done.at
    (c.edge_on.ensures.none c.in_default.is)
    (on_there c.args.edges.now c.args.first.held (c.args.more - 1 - c.loop-done.done)
    c.loop-done.at c.locks_behind-ahead.result c.requires.within c.locks_behind-ahead.ensures
    (subst (λ (n : ℕ). HasWay c.args.edges.now c.loop-done.at c.args.first.held n) next
    c.loop-done.invariant.way))

pub loop-done-preserved : goal.loop-done-preserved
loop-done-preserved c =
    let next : c.args.more - c.loop-done.done ≡ c.args.more - 1 - c.loop-done.done + 1 =
    omega (arith, c.loop-done-test.true) in
    let left : c.args.more - 1 - c.loop-done.done ≡ c.args.more - (c.loop-done.done + 1) =
    omega arith in
    let before : IsBegun c.args.edges.now c.args.first c.loop-done.cycle.items c.loop-done.done
    (c.args.more - 1 - c.loop-done.done + 1) c.loop-done.at =
    subst (λ (n : ℕ). IsBegun c.args.edges.now c.args.first c.loop-done.cycle.items
    c.loop-done.done n c.loop-done.at) next c.loop-done.invariant in
    subst (λ (xs : List NumberedEdge). IsBegun c.args.edges.now c.args.first xs
    (c.loop-done.done + 1) (c.args.more - (c.loop-done.done + 1)) c.in-Some.edge.taken)
    (sym (c.in_ok-push-2.ensures {u = tt}).items)
    (subst (λ (n : ℕ). IsBegun c.args.edges.now c.args.first
    (c.loop-done.cycle.items ++ c.in-Some.edge ∷ []) (c.loop-done.done + 1) n c.in-Some.edge.taken)
    left
    (goes_on c.args.edges.now c.args.first c.loop-done.cycle.items c.loop-done.done
    (c.args.more - 1 - c.loop-done.done) c.loop-done.at c.in-Some.edge c.requires.within before
    (approaches c.args.edges.now c.args.first.held (c.args.more - 1 - c.loop-done.done)
    c.loop-done.at c.locks_behind-ahead.result c.in-Some.edge c.requires.within
    c.locks_behind-ahead.ensures c.in-Some.ensures.some)))
