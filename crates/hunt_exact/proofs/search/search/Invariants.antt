use Rattle.hunt_exact.specs.Searched.{IsCounted}
use Rattle.hunt_exact.proofs.search.search.Given as goal

abbrev pub invariant-loop-number : goal.invariant-loop-number
invariant-loop-number g l =
    IsCounted l.scope l.initial.seen 0 → IsCounted l.scope l.seen l.number
