-- Threads that wait, and a standstill: no thread goes on, since each that has frames waits.
use Rattle.std.specs.Prelude.{ℕ, ◌≡◌, ◌<◌, Bool, true, false, List, Some, get_or, slice_get}
use Rattle.model.specs.declared.event.Event.TheVariants.{Step}
use Rattle.model.specs.History.{is_kept}
use Rattle.model.specs.View.{busy_at}
use Rattle.hostcore.specs.Core.{CoreState, reply_in, world_of}

-- a thread waits: it has frames, and a step of it changes nothing
pub record IsWaiting (c : CoreState) (t : ℕ) : Type 0 where
  pub busy : busy_at (world_of c) t ≡ true
  pub unchanged : is_kept (reply_in c (Step t)) ≡ false

-- of the first so many threads none goes on: each that has frames waits, but for those that are marked
-- as gone, which no one steps any more
abbrev pub StandStill : CoreState → List Bool → ℕ → Type 0
StandStill c gone count =
    (t : ℕ) → t < count → get_or gone t false ≡ false → busy_at (world_of c) t ≡ true
    → IsWaiting c t

-- the threads that are marked wait
abbrev pub AreWaiting : CoreState → List Bool → Type 0
AreWaiting c marks = (t : ℕ) → slice_get marks t ≡ Some true → IsWaiting c t
