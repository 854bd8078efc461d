use Rattle.std.proofs.Common.{◌≡◌, None, ℕ, ◌<◌}
use Rattle.hostcore.specs.Core.{world_of}
use Rattle.workers.specs.Turned.{start_of}
use Rattle.workers.proofs.turns.first_due.Given as goal

abbrev pub invariant-loop-device : goal.invariant-loop-device
invariant-loop-device l =
    (k : ℕ) → k < l.device → start_of (world_of l.core) l.thread k ≡ None
