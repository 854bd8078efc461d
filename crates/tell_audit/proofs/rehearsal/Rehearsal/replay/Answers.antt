use Rattle.std.proofs.Common.{◌<◌, arith, length}
use Rattle.tell_audit.proofs.Rehearsing.{goes_further}
use Rattle.tell_audit.proofs.rehearsal.Rehearsal.replay.Goals as goal

pub loop-event-preserved : goal.loop-event-preserved
loop-event-preserved c =
    let inside : c.loop-event.event-index < length c.args.events.now =
    omega (arith, c.loop-event-test.true) in
    goes_further _ _ _ _ _ inside _ _ _ c.in_ok-_reply.ensures c.loop-event.invariant
