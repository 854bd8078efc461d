use Rattle.verifier_orders.specs.Cycle.{AreBehind}
use Rattle.verifier_orders.proofs.cycle.locks_behind.Given as goal

abbrev pub invariant-loop-turn : goal.invariant-loop-turn
invariant-loop-turn l = AreBehind l.edges l.to l._turn l.behind
