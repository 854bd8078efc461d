use Rattle.std.proofs.Common.{◌≡◌, ◌∙◌, ap, arith}
use Rattle.tell_audit.specs.Rest.{busy_below}
use Rattle.tell_audit.proofs.standing.busy_threads.Goals as goal

pub returns : goal.returns
returns c =
    let all : c.loop-thread.thread ≡ 64 =
    omega (arith, c.loop-thread.auto.thread-end, c.loop-thread-test.false) in
    c.loop-thread.invariant ∙ ap (λ t. busy_below c.args.machine.now.world t) all
