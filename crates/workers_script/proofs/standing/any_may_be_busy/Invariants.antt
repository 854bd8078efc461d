use Rattle.std.proofs.Common.{◌≡◌, ◌<◌, ℕ, false}
use Rattle.model.specs.View.{busy_at}
use Rattle.hostcore.specs.Core.{world_of}
use Rattle.workers_script.proofs.standing.any_may_be_busy.Given as goal

abbrev pub invariant-loop-thread : goal.invariant-loop-thread
invariant-loop-thread l =
    record {
      same : l.core ≡ record l.fn.core { seats = l.core.seats };
      idle : (t : ℕ) → t < l.thread → busy_at (world_of l.fn.core) t ≡ false;
    }
