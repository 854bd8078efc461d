use Rattle.std.proofs.Common.{◌≡◌, ◌<◌, ◌≤◌, length, arith}
use Rattle.absstate.proofs.Releasing.{let_go_next, let_go_over}
use Rattle.absstate.proofs.cancel.all_let_go.Goals as goal

pub loop-kind-preserved : goal.loop-kind-preserved
loop-kind-preserved c =
    let long : length c.loop-kind.kinds ≡ length c.args.kinds.now = c.loop-kind.auto.kinds in
    let more : c.loop-kind.kind-index < length c.args.kinds.now = c.loop-kind-test.true in
    let_go_next c.args.set.now c.args.driver c.args.lock.now c.loop-kind.kinds c.args.kinds.now
    c.loop-kind.kind-index _ c.let_go.result (omega arith) c.let_go.ensures c.loop-kind.invariant

pub returns : goal.returns
returns c =
    let long : length c.loop-kind.kinds ≡ length c.args.kinds.now = c.loop-kind.auto.kinds in
    let over : length c.args.kinds.now ≤ c.loop-kind.kind-index = c.loop-kind-test.false in
    let_go_over c.args.set.now c.args.driver c.args.lock.now c.loop-kind.kinds c.args.kinds.now
    c.loop-kind.kind-index (omega arith) c.loop-kind.invariant
