use Rattle.std.proofs.Common.{◌≡◌, ◌<◌, ℕ, true, false, get_or}
use Rattle.std.specs.Prelude.{◌⊎◌, ◌||◌}
use Rattle.model.specs.View.{busy_at}
use Rattle.hostcore.specs.Core.{world_of}
use Rattle.workers.proofs.standing.none_goes_on.Given as goal

abbrev pub invariant-loop-thread : goal.invariant-loop-thread
invariant-loop-thread l =
    (t : ℕ) → t < l.thread → ((get_or l.marks t false || get_or l.gone t false) ≡ true)
    ⊎ (busy_at (world_of l.core) (get_or l.seats t t) ≡ false)
