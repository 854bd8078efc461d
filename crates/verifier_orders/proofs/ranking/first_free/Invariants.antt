use Rattle.std.specs.Prelude.{ℕ, ◌<◌}
use Rattle.verifier_orders.specs.Ranking.{IsNowhere, IsOpen}
use Rattle.verifier_orders.proofs.ranking.first_free.Given as goal

abbrev pub invariant-loop-lock : goal.invariant-loop-lock
invariant-loop-lock l =
    (k : ℕ) → k < l.lock → IsNowhere l.places k → IsOpen l.edges l.places k → ⊥
