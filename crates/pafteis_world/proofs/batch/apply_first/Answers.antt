use Rattle.std.proofs.Common.{arith}
use Rattle.pafteis_world.proofs.Batches.{applies_more, applies_none, ended_wrong}
use Rattle.pafteis_world.proofs.batch.apply_first.Goals as goal

pub loop-count-init : goal.loop-count-init
loop-count-init c =
    record { applies = applies_none c.args.events.now c.args.world.now c.args.replies.now }

pub returns-in_default-clause-ended : goal.returns-in_default-clause-ended
returns-in_default-clause-ended c =
    ended_wrong c.args.events.now c.args.replies.now c.loop-count.count _ c.event_of.result
    (omega (arith, c.loop-count-test.true, c.min-room.ensures)) c.event_of.ensures c.in_default.is

pub loop-count-preserved : goal.loop-count-preserved
loop-count-preserved c =
    let e = c.apply.ensures in
    record {
      applies =
          applies_more c.args.events.now c.args.world.now c.loop-count.world c.apply.new.self
          c.args.replies.now c.loop-count.replies c.loop-count.count _ c.in-Some.event
          c.apply.result c.reply_shown.result c.event_of.result c.loop-count.invariant.applies
          c.event_of.ensures c.in-Some.is
          (omega (arith, c.loop-count-test.true, c.min-room.ensures))
          (omega (arith, c.loop-count-test.true, c.min-room.ensures))
          (record { applies = e.applies; rules = e.rules; goes_on = e.goes_on; threads = e.steps })
          c.reply_shown.ensures;
    }
