use Rattle.std.proofs.Common.{◌≡◌, replicate}
use Rattle.model.specs.World.{idle_thread}
use Rattle.checked.proofs.system.System.new.Given as goal

abbrev pub invariant-loop-thread : goal.invariant-loop-thread
invariant-loop-thread l = l.thread_list.items ≡ replicate l._thread idle_thread
