use Rattle.verifier_orders.proofs.Ways.{behind_begun, behind_more}
use Rattle.verifier_orders.proofs.cycle.locks_behind.Goals as goal

pub loop-turn-init : goal.loop-turn-init
loop-turn-init c = behind_begun c.args.edges.now c.args.to c.requires.low

pub loop-turn-preserved : goal.loop-turn-preserved
loop-turn-preserved c =
    behind_more c.args.edges.now c.args.to c.loop-turn._turn c.loop-turn.behind c.one_back-behind.result
    c.requires.within c.loop-turn.invariant c.one_back-behind.ensures
