-- A set's world, begun anew.
use Rattle.std.specs.Prelude.{ℕ, ◌≡◌, Bool, true, false, List, [], Option}
use Rattle.laws_runs.specs.Rules.{KeepsTheRules}
use Rattle.model.specs.declared.event.Event.{Event}
use Rattle.model.specs.Machine.{Shows}
use Rattle.model.specs.Set.{Set}
use Rattle.model.specs.Shown.{Shown}
use Rattle.pafteis_world.specs.declared.handle.Handle.{Handle}
use Rattle.pafteis_world.specs.Driven.{Does, Holds, world_in}

-- a world of a set before the first event, and whose runs keep the rules
pub record IsBegun (set : Set) (threads : ℕ) (m : Shown) : Type 0 where
  pub same : m.set ≡ set
  pub shows : Shows m threads []
  pub rules : (events : List Event) → KeepsTheRules m.set threads events

-- it stands in the place of a world of the same set, or that has stayed
abbrev pub IsReset : ℕ → Shown → Bool → Shown → Type 0
IsReset threads before true after = IsBegun before.set threads after
IsReset threads before false after = after ≡ before

abbrev pub Resets : ℕ → Handle → Option Bool → Handle → Type 0
Resets threads before done after =
    Does (IsReset threads) (world_in before) done (world_in after)

-- a world stays as it is, and an empty handle has one of its set, or stays empty
abbrev pub IsAnother : ℕ → Handle → Shown → Bool → Shown → Type 0
IsAnother threads new before true after =
    (after ≡ before) × Holds (IsBegun before.set threads) (world_in new)
IsAnother threads new before false after = (after ≡ before) × (new.live ≡ false)

abbrev pub BeginsAnew : ℕ → Handle → Option Bool → Handle → Handle → Type 0
BeginsAnew threads before done after new =
    Does (IsAnother threads new) (world_in before) done (world_in after)
    × (before.live ≡ false → new.live ≡ false)
