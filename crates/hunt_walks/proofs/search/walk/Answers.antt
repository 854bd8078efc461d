use Rattle.hunt_walks.proofs.Searching.{all_walked, searched_begun}
use Rattle.hunt_walks.proofs.search.walk.Goals as goal

pub search-requires : goal.search-requires
search-requires g c =
    let home = c.args.home.now in
    searched_begun (g.W.Walker.may home) (g.W.Walker.fails home) (g.W.Walker.one home)
    c.args.moves c.in_ok-seen.seen c.in_ok-seen.ensures

pub returns-in-All : goal.returns-in-All
returns-in-All g c =
    let home = c.args.home.now in
    all_walked (g.W.Walker.may home) (g.W.Walker.fails home) (g.W.Walker.one home) c.args.moves
    c.args.most _ _ _ c.in_ok-ended.ensures c.in-All.is c.into_paths.ensures
