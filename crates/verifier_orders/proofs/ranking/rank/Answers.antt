use Rattle.verifier_orders.proofs.Ranked.{ranked_all, ranked_left, ranked_more}
use Rattle.verifier_orders.proofs.ranking.rank.Goals as goal

pub returns-in-None-clause-some : goal.returns-in-None-clause-some
returns-in-None-clause-some c =
    ranked_left c.args.edges.now c.loop-turn.places c.loop-turn.turn c.loop-turn.invariant
    c.loop-turn-test.true

pub loop-turn-preserved : goal.loop-turn-preserved
loop-turn-preserved c =
    ranked_more c.args.edges.now c.loop-turn.places c.loop-turn.turn c.loop-turn.invariant
    c.in-Some.lock c.loop-turn-test.true c.in-Some.ensures.free c.requires

pub returns-clause-ranked : goal.returns-clause-ranked
returns-clause-ranked c =
    ranked_all c.args.edges.now c.loop-turn.places c.loop-turn.turn c.loop-turn.invariant
    c.loop-turn-test.false c.loop-turn.auto.turn-end
