use Rattle.std.proofs.Common.{◌<◌, arith, length}
use Rattle.hunt_exact.proofs.Coming.{followed_next, found_next, searched_next}
use Rattle.hunt_exact.proofs.visiting.follow_each.Goals as goal

pub loop-event-preserved : goal.loop-event-preserved
loop-event-preserved c =
    λ front begun at.
    let inside : c.loop-event.event-index < length c.args.moves.now =
    omega (arith, c.loop-event-test.true) in
    followed_next _ _ _ c.requires _ _ _ _ _ _ _ inside c.in_ok-ends.ensures front
    (c.loop-event.invariant front begun at).0 (c.loop-event.invariant front begun at).1
    c.if-ends.false

pub returns-then-ends : goal.returns-then-ends
returns-then-ends c =
    λ front begun at.
    let inside : c.loop-event.event-index < length c.args.moves.now =
    omega (arith, c.loop-event-test.true) in
    found_next _ _ _ c.requires _ _ _ _ _ _ _ inside c.in_ok-ends.ensures front
    (c.loop-event.invariant front begun at).0 (c.loop-event.invariant front begun at).1
    c.if-ends.true

pub returns : goal.returns
returns c =
    λ front begun at.
    searched_next _ _ _ c.requires _ _ front (c.loop-event.invariant front begun at).0
    (omega (arith, c.loop-event-test.false))
