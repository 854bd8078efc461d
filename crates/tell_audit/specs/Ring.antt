-- Threads that wait for each other in a ring.
use Rattle.std.specs.Prelude.{ℕ, ◌||◌, zero, suc, Bool, false, Option, None, Some, nat_eq}
use Rattle.model.specs.declared.limits.TheConstants.{MAX_THREADS}
use Rattle.model.specs.Set.{Set}
use Rattle.model.specs.World.{World}
use Rattle.laws_runs.specs.Waiting.{waits_for}

-- a thread is met again within so many steps from one to the thread that it waits for
abbrev pub is_met : Set → World → ℕ → ℕ → Option ℕ → Bool
is_met set w t zero u = false
is_met set w t (suc steps) None = false
is_met set w t (suc steps) (Some u) = nat_eq u t || is_met set w t steps (waits_for set w u)

-- it waits in a ring; no ring has more threads than a run
abbrev pub is_in_ring : Set → World → ℕ → Bool
is_in_ring set w t = is_met set w t MAX_THREADS (waits_for set w t)
