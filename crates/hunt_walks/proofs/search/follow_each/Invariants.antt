use Rattle.hunt_walks.specs.Searched.{HasFollowed}
use Rattle.hunt_walks.proofs.search.follow_each.Given as goal

abbrev pub invariant-loop-number : goal.invariant-loop-number
invariant-loop-number g l =
    HasFollowed (g.W.Walker.may l.home) (g.W.Walker.fails l.home) (g.W.Walker.one l.home)
    l.initial.seen l.seen l.path l.number
    × g.W.Walker.stands l.home l.path l.place
