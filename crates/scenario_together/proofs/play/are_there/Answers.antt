use Rattle.std.proofs.Common.{◌≡◌, arith, length, rules}
use Rattle.scenario_together.proofs.Ending.{there_all}
use Rattle.scenario_together.proofs.play.are_there.Goals as goal

pub returns : goal.returns
returns c =
    let named = c.args.named.now in
    let long : length named ≡ 64 = search rules in
    there_all named c.args.playing.now c.loop-thread.thread long
    (omega (arith, c.loop-thread-test.false)) c.loop-thread.invariant
