use Rattle.std.proofs.Common.{arith}
use Rattle.scenario_together.proofs.Joining.{ends_in, failing_in, joined_all, joined_next, more_in}
use Rattle.scenario_together.proofs.play.join_all.Goals as goal

pub loop-playing-preserved : goal.loop-playing-preserved
loop-playing-preserved c =
    joined_next c.args.merges c.args.crew.threads c.args.crew.worlds c.args.plays.now _ _ _
    c.loop-playing.playing-index c.playing-item.result c.loop-playing-test.true c.playing-item.is
    c.loop-playing.invariant
    (ends_in c.args.merges c.args.crew.threads c.args.crew.worlds c.playing-item.result _ c.in_ok-joined.joined
    c.in_ok-joined.ensures c.in-Ends.is) c.in_ok-append-in-Ends.ensures.items

pub returns-in-Fails : goal.returns-in-Fails
returns-in-Fails c =
    λ step.
    failing_in c.args.merges c.args.crew.threads c.args.crew.worlds step c.args.plays.now c.loop-playing.playing-index
    c.playing-item.result c.in-Fails.now c.in_ok-joined.joined c.loop-playing-test.true
    c.playing-item.is c.in_ok-joined.ensures c.in-Fails.is

pub returns-in-More : goal.returns-in-More
returns-in-More c =
    λ step.
    more_in c.args.merges c.args.crew.threads c.args.crew.worlds c.args.plays.now c.loop-playing.playing-index
    c.playing-item.result c.in-More.now c.in_ok-joined.joined c.loop-playing-test.true
    c.playing-item.is c.in_ok-joined.ensures c.in-More.is

pub returns : goal.returns
returns c =
    λ step.
    joined_all c.args.merges c.args.crew.threads c.args.crew.worlds c.args.plays.now c.loop-playing.all.items
    c.loop-playing.playing-index (omega (arith, c.loop-playing-test.false))
    c.loop-playing.invariant
