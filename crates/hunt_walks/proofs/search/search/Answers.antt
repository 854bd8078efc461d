use Rattle.std.proofs.Common.{arith, rules}
use Rattle.hunt_walks.proofs.Searching.{closed_at}
use Rattle.hunt_walks.proofs.search.search.Goals as goal

pub returns-then-number-len : goal.returns-then-number-len
returns-then-number-len g c =
    let home = c.args.home.now in
    closed_at (g.W.Walker.may home) (g.W.Walker.fails home) (g.W.Walker.one home) c.args.moves
    c.args.most c.loop-number.seen c.loop-number.number c.loop-number.invariant (search rules)
    (search rules)

pub returns : goal.returns
returns g c =
    let home = c.args.home.now in
    closed_at (g.W.Walker.may home) (g.W.Walker.fails home) (g.W.Walker.one home) c.args.moves
    c.args.most c.loop-number.seen c.loop-number.number c.loop-number.invariant (search rules)
    (search rules)
