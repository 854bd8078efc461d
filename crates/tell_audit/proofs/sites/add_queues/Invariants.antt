use Rattle.std.proofs.Common.{◌≡◌, ◌++◌}
use Rattle.tell_audit.specs.Sites.{queues_below}
use Rattle.tell_audit.proofs.sites.add_queues.Given as goal

abbrev pub invariant-loop-queue : goal.invariant-loop-queue
invariant-loop-queue l = l.sites.items ≡ l.initial.sites.items ++ queues_below l.machine.world l.n l.device l.queue
