-- Threads that go on while the locks that others wait for keep their owners.
use Rattle.std.specs.List.{list_all}
use Rattle.std.specs.Prelude.{ℕ, zero, suc, ◌≡◌, ◌<◌, ◌⊎◌, Bool, true, false, List, [], ◌∷◌, Option, Some, if◌then◌else◌, option_and_then, option_map, slice_get}
use Rattle.laws_runs.specs.Waiting.{other_owner, sought_on}
use Rattle.model.specs.declared.event.Lock.{Lock}
use Rattle.model.specs.Set.{Set}
use Rattle.model.specs.World.{Locks, World, owner_of}
use Rattle.scenario_world.specs.declared.goers.Awaited.{Awaited}
use Rattle.scenario_world.specs.declared.goers.Goers.{Goers}
use Rattle.scenario_world.specs.Expected.{is_owned}
use Rattle.scenario_world.specs.Going.{goes_on}

-- the lock that a thread waits for, and the one that owns it
abbrev pub awaited_by : Set → World → ℕ → Option Awaited
awaited_by set w t =
    option_and_then (λ lock. option_map (λ owner. record { lock = lock; owner = owner })
    (other_owner t (owner_of w.shared.locks lock))) (sought_on set w t)

-- a lock is among these
abbrev pub HasLock : Lock → List Awaited → Type 0
HasLock lock [] = ⊥
HasLock lock (one ∷ others) = (one.lock ≡ lock) ⊎ HasLock lock others

-- these locks have these owners
abbrev pub are_owned : Locks → List Awaited → Bool
are_owned locks awaited = list_all (λ one. is_owned (Some one.owner) (owner_of locks one.lock)) awaited

-- those of so many threads, the first of them t, that go on
abbrev pub going_from : ℕ → ℕ → Set → World → List ℕ
going_from zero t set w = []
going_from (suc count) t set w =
    if goes_on set w t then t ∷ going_from count (suc t) set w
    else going_from count (suc t) set w

-- a thread doesn't go on in a world where it has the frames of this one, and these locks their owners
abbrev pub StaysOff : Set → World → List Awaited → ℕ → Type 0
StaysOff set w awaited t =
    (v : World) → slice_get v.threads t ≡ slice_get w.threads t
    → are_owned v.shared.locks awaited ≡ true → goes_on set v t ≡ false

-- those of so many threads that go on, and locks whose owners keep the others from it
pub record AreGoers (set : Set) (w : World) (threads : ℕ) (goers : Goers) : Type 0 where
  pub listed : goers.threads.items ≡ going_from threads 0 set w
  pub owned : are_owned w.shared.locks goers.awaited.items ≡ true
  pub others : (t : ℕ) → t < threads → goes_on set w t ≡ false
      → StaysOff set w goers.awaited.items t
