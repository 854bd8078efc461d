use Rattle.std.proofs.Common.{◌≡◌}
use Rattle.tell_audit.specs.Findings.{rings_below}
use Rattle.tell_audit.proofs.findings.ringed_threads.Given as goal

abbrev pub invariant-loop-thread : goal.invariant-loop-thread
invariant-loop-thread l =
    l.ringed.items ≡ rings_below l.machine.set l.machine.world l.thread
