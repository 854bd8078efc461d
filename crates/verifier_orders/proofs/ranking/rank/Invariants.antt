use Rattle.verifier_orders.proofs.Ranked.{AreRankedTo}
use Rattle.verifier_orders.proofs.ranking.rank.Given as goal

abbrev pub invariant-loop-turn : goal.invariant-loop-turn
invariant-loop-turn l = AreRankedTo l.edges l.places l.turn
