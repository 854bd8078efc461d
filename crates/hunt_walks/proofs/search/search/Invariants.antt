use Rattle.hunt_walks.specs.Searched.{IsSearched}
use Rattle.hunt_walks.proofs.search.search.Given as goal

abbrev pub invariant-loop-number : goal.invariant-loop-number
invariant-loop-number g l =
    IsSearched (g.W.Walker.may l.home) (g.W.Walker.fails l.home) (g.W.Walker.one l.home) l.moves
    l.seen l.number
