use Rattle.std.proofs.Common.{◌≡◌, ◌∙◌, sym, true}
use Rattle.hunt_walks.proofs.Searching.{walk_on}
use Rattle.hunt_walks.proofs.search.follow.Goals as goal

pub keep-requires-clause-walk : goal.keep-requires-clause-walk
keep-requires-clause-walk g c =
    let home = c.args.home.now in
    let path = c.args.path.now in
    let can : c.may-may.result ≡ true = c.if-not-may.false in
    let is = c.may-may.ensures home path c.requires.stands in
    let may : g.W.Walker.may home path c.args.number ≡ true = sym is ∙ can in
    walk_on (g.W.Walker.may home) (g.W.Walker.fails home) (g.W.Walker.one home) path
    c.args.number c.may-may.result c.in_ok-well.well c.requires.walk is can
    (c.in_ok-well.ensures.fails home path c.requires.stands may)
    c.if-not-well.false
