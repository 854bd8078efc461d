-- Where the steps that a thread makes one after another are to end.
use Rattle.std.specs.Prelude.{ℕ, ◌≡◌, ◌≤◌, ◌⊎◌, Bool, true, false, if◌then◌else◌, is_some}
use Rattle.laws_runs.specs.Waiting.{waits_for}
use Rattle.model.specs.declared.event.Place.{Place}
use Rattle.model.specs.Set.{Set}
use Rattle.model.specs.View.{busy_at, thread_at}
use Rattle.model.specs.World.{World}
use Rattle.scenario_names.specs.declared.names.Spot.{Spot}
use Rattle.scenario_world.specs.declared.until.Until.{Until}
use Rattle.scenario_world.specs.declared.until.Until.TheVariants.{Never, At, Release, Waiting, Alone}
use Rattle.scenario_world.specs.Going.{other_goes_on, other_is_busy}
use Rattle.scenario_world.specs.Releases.{stands_before_release}
use Rattle.scenario_world.specs.States.{stands_at}

-- the place of an instruction, as the machine has it
abbrev pub fits : Spot → Place → Type 0
fits spot place =
    (place.driver ≡ spot.driver) × (place.routine ≡ spot.routine)
    × (place.position ≡ spot.position)

-- a part of it is above its range there
abbrev pub IsBeyond : Spot → Type 0
IsBeyond spot = (256 ≤ spot.driver) ⊎ (256 ≤ spot.routine) ⊎ (65536 ≤ spot.position)

-- the steps of a thread end before its next one
abbrev pub is_before : Until → Set → World → ℕ → Bool
is_before Never set w t = false
is_before (At spot) set w t = stands_at spot (thread_at w t)
is_before (Release lock) set w t = stands_before_release set w t lock
is_before Waiting set w t = is_some (waits_for set w t)
is_before (Alone threads) set w t = is_some (waits_for set w t)

-- they end behind a step that leads to this world, since another thread goes on in it
abbrev pub wakes : Until → Set → World → ℕ → Bool
wakes Never set w t = false
wakes (At spot) set w t = false
wakes (Release lock) set w t = false
wakes Waiting set w t = false
wakes (Alone threads) set w t = other_goes_on set w t threads

-- the thread has frames, and its next step is made
pub record MaySteps (until : Until) (set : Set) (w : World) (t : ℕ) : Type 0 where
  pub busy : busy_at w t ≡ true
  pub short : is_before until set w t ≡ false

-- until then no other one of so many threads goes on: none has frames, or it is looked at
abbrev pub StaysLone : Until → Set → World → ℕ → ℕ → Type 0
StaysLone Never set w t threads = ⊥
StaysLone (At spot) set w t threads = ⊥
StaysLone (Release lock) set w t threads = ⊥
StaysLone Waiting set w t threads = other_is_busy w t threads ≡ false
StaysLone (Alone n) set w t threads =
    (n ≡ threads) × (other_goes_on set w t threads ≡ false)

-- where they are to end for that: others are looked at where one of them has frames
abbrev pub lone_until : World → ℕ → ℕ → Until
lone_until w t threads = if other_is_busy w t threads then Alone threads else Waiting
