use Rattle.std.proofs.Common.{arith}
use Rattle.scenario_together.proofs.Ending.{ends_all, ends_grow}
use Rattle.scenario_together.proofs.together.ends_of.Goals as goal

pub loop-path-preserved : goal.loop-path-preserved
loop-path-preserved c =
    let home = c.args.home.now in
    ends_grow home.named home.playing c.args.paths.now c.loop-path.path-index c.path-item.result
    c.as_slice.result.now _ _ c.loop-path-test.true c.path-item.is c.as_slice.ensures
    c.loop-path.invariant c.in_ok-add_end.ensures

pub returns : goal.returns
returns c =
    let home = c.args.home.now in
    ends_all home.named home.playing c.args.paths.now c.loop-path.path-index c.loop-path.plays.items
    (omega (arith, c.loop-path-test.false)) c.loop-path.invariant
