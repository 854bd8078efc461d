use Rattle.std.proofs.Common.{◌≡◌}
use Rattle.tell_audit.specs.Sites.{threads_below}
use Rattle.tell_audit.proofs.sites.sites_of.Given as goal

abbrev pub invariant-loop-thread : goal.invariant-loop-thread
invariant-loop-thread l = l.sites.items ≡ threads_below l.machine.world l.n l.thread
