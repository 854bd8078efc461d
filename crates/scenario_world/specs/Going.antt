-- Threads that go on: they have frames and wait for no lock.
use Rattle.std.specs.Prelude.{ℕ, zero, suc, ◌≡◌, ◌<◌, ◌&&◌, ◌||◌, not, Bool, true, false, nat_eq, is_none}
use Rattle.laws_runs.specs.Waiting.{waits_for}
use Rattle.model.specs.Set.{Set}
use Rattle.model.specs.View.{busy_at}
use Rattle.model.specs.World.{World}
use Rattle.scenario_world.specs.declared.going.Going.{Going}
use Rattle.scenario_world.specs.declared.going.Going.TheVariants.{Nobody, One, Several}

-- a thread does
abbrev pub goes_on : Set → World → ℕ → Bool
goes_on set w t = busy_at w t && is_none (waits_for set w t)

-- one of so many threads does
abbrev pub any_goes_on : Set → World → ℕ → Bool
any_goes_on set w zero = false
any_goes_on set w (suc t) = any_goes_on set w t || goes_on set w t

-- another one than t of them does
abbrev pub other_goes_on : Set → World → ℕ → ℕ → Bool
other_goes_on set w t zero = false
other_goes_on set w t (suc u) =
    other_goes_on set w t u || (not (nat_eq u t) && goes_on set w u)

-- another one has frames
abbrev pub other_is_busy : World → ℕ → ℕ → Bool
other_is_busy w t zero = false
other_is_busy w t (suc u) = other_is_busy w t u || (not (nat_eq u t) && busy_at w u)

-- which do: none, this one alone, or some
abbrev pub IsLone : Set → World → ℕ → ℕ → Type 0
IsLone set w threads t =
    (t < threads) × (goes_on set w t ≡ true) × (other_goes_on set w t threads ≡ false)

abbrev pub AreGoing : Set → World → ℕ → Going → Type 0
AreGoing set w threads Nobody = any_goes_on set w threads ≡ false
AreGoing set w threads (One t) = IsLone set w threads t
AreGoing set w threads Several = any_goes_on set w threads ≡ true
