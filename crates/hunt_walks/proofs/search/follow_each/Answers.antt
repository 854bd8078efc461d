use Rattle.hunt_walks.proofs.Searching.{followed_next, followed_none}
use Rattle.hunt_walks.proofs.search.follow_each.Goals as goal

pub loop-number-init : goal.loop-number-init
loop-number-init g c =
    let home = c.args.home.now in (
      followed_none (g.W.Walker.may home) (g.W.Walker.fails home) (g.W.Walker.one home)
          c.args.seen.now c.args.path.now,
      c.in_ok-place.ensures,
    )

pub loop-number-preserved : goal.loop-number-preserved
loop-number-preserved g c =
    let home = c.args.home.now in
    let at = c.loop-number in (
      followed_next (g.W.Walker.may home) (g.W.Walker.fails home) (g.W.Walker.one home)
          c.args.seen.now at.seen c.follow.new.seen c.args.path.now at.number c.in_ok-well.well
          at.invariant.0 c.in_ok-well.ensures.tried c.if-not-well.false,
      c.in_ok-well.ensures.stands c.if-not-well.false,
    )
