use Rattle.hostcore.proofs.Walk.{Finds}
use Rattle.hostcore.proofs.index.Index.get.Given as goal

abbrev pub invariant-loop-end : goal.invariant-loop-end
invariant-loop-end g l =
    Finds g.K.Numbered.number l.self-inside.slots g.K.PartialEq.eq l.slot l.key
    l.self-inside.entries.items l.end l.found

abbrev pub decreases-loop-end : goal.decreases-loop-end
decreases-loop-end g l = l.end
