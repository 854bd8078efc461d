-- Threads that still have frames after a history.
use Rattle.std.specs.Prelude.{ℕ, ◌≡◌, List, Option, None, Some, false}
use Rattle.model.specs.declared.history.Entry.{Entry}
use Rattle.model.specs.History.{events_of, world_after_all}
use Rattle.model.specs.Machine.{Machine, ShowsWhole}
use Rattle.model.specs.Set.{Set}
use Rattle.model.specs.View.{busy_at}
use Rattle.model.specs.World.{World}

-- no thread of a world has frames
abbrev pub AreIdle : World → Type 0
AreIdle w = (t : ℕ) → busy_at w t ≡ false

-- a machine of a set has run the events of a history
pub record HasRun (set : Set) (threads : ℕ) (history : List Entry) (machine : Machine) : Type 0
  where
    pub same_set : machine.set ≡ set
    pub run : ShowsWhole machine threads (events_of history)

-- what stands after a history: such a machine, or nothing, where no thread has frames
abbrev pub IsStanding : Set → ℕ → List Entry → Option Machine → Type 0
IsStanding set threads history None = AreIdle (world_after_all set threads history)
IsStanding set threads history (Some machine) = HasRun set threads history machine
