use Rattle.std.specs.Prelude.{ℕ, ◌<◌}
use Rattle.verifier_orders.specs.Cycle.{OfNone, Returns}
use Rattle.verifier_orders.proofs.cycle.shortest_cycle.Given as goal

abbrev pub invariant-loop-more : goal.invariant-loop-more
invariant-loop-more l = (k : ℕ) → k < l.more → OfNone l.edges (Returns l.edges k)
