use Rattle.std.proofs.Common.{◌<◌, arith, length}
use Rattle.hunt_exact.proofs.Allowing.{stands_next, within_all}
use Rattle.hunt_exact.proofs.allowed.goes_within.Goals as goal

pub loop-event-preserved : goal.loop-event-preserved
loop-event-preserved c =
    λ stands.
    let inside : c.loop-event.event-index < length c.args.events.now =
    omega (arith, c.loop-event-test.true) in
    stands_next c.args.machine.now.set c.args.threads c.args.trying.now.packets
    c.args.trying.now.requests.items c.args.trying.now.raised c.args.events.now _ _ _ _ _ _ inside
    c.is_barred-barred.ensures c.if-barred.false c.apply-reply.ensures
    (c.loop-event.invariant stands)

pub returns : goal.returns
returns c =
    λ holds stands.
    within_all _ c.args.events.now _ _ (omega (arith, c.loop-event-test.false))
    (c.loop-event.invariant stands)
