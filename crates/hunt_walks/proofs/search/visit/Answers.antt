use Rattle.std.proofs.Common.{◌∙◌}
use Rattle.hunt_walks.proofs.Searching.{visited}
use Rattle.hunt_walks.proofs.search.visit.Goals as goal

pub returns-in-None : goal.returns-in-None
returns-in-None g c =
    let home = c.args.home.now in
    visited (g.W.Walker.may home) (g.W.Walker.fails home) (g.W.Walker.one home) c.args.moves
    c.args.seen.now c.follow_each.new.seen c.args.number _ _ _ c.requires.searched
    c.in-Some.ensures.kept (c.as_slice.ensures.value ∙ c.in_ok-path.ensures.items)
    c.in_ok-found.ensures c.in-None.is
