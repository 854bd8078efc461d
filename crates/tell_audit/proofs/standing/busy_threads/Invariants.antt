use Rattle.std.proofs.Common.{◌≡◌}
use Rattle.tell_audit.specs.Rest.{busy_below}
use Rattle.tell_audit.proofs.standing.busy_threads.Given as goal

abbrev pub invariant-loop-thread : goal.invariant-loop-thread
invariant-loop-thread l = l.threads.items ≡ busy_below l.machine.world l.thread
