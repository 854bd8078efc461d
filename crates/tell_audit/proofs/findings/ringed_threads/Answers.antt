use Rattle.std.proofs.Common.{◌≡◌, ◌∙◌, ap, arith}
use Rattle.tell_audit.specs.Findings.{rings_below}
use Rattle.tell_audit.proofs.findings.ringed_threads.Goals as goal

pub returns : goal.returns
returns c =
    let all : c.loop-thread.thread ≡ 64 =
    omega (arith, c.loop-thread.auto.thread-end, c.loop-thread-test.false) in
    c.loop-thread.invariant
    ∙ ap (λ t. rings_below c.args.machine.now.set c.args.machine.now.world t) all
