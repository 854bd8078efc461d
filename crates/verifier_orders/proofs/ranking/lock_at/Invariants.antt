use Rattle.std.specs.Prelude.{ℕ, ◌<◌}
use Rattle.verifier_orders.specs.Ranking.{IsAt}
use Rattle.verifier_orders.proofs.ranking.lock_at.Given as goal

abbrev pub invariant-loop-lock : goal.invariant-loop-lock
invariant-loop-lock l = (k : ℕ) → k < l.lock → IsAt l.places k l.place → ⊥
