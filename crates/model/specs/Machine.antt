-- What a machine shows: the run of a list of events.
use Rattle.std.specs.Prelude.{ℕ, ◌≡◌, ◌++◌, Bool, List, [], ◌∷◌}
use Rattle.model.specs.declared.event.Event.{Event}
use Rattle.model.specs.declared.event.Reply.{Reply}
use Rattle.model.specs.Run.{run, step}
use Rattle.model.specs.Set.{Set}
use Rattle.model.specs.Shown.{Shown, ShowsWorld}
use Rattle.model.specs.World.{World}

-- a machine shows the run of a list of events over its set and a number of threads
abbrev pub Shows : Shown → ℕ → List Event → Type 0
Shows m threads events = ShowsWorld m (run m.set threads events).world

-- a machine that keeps its world whole, and whether it has stopped
pub record Machine : Type 0 where
  pub set : Set
  pub world : World
  pub stopped : Bool

-- it shows such a run with nothing left out
pub record ShowsWhole (m : Machine) (threads : ℕ) (events : List Event) : Type 0 where
  pub world : m.world ≡ (run m.set threads events).world
  pub stopped : m.stopped ≡ (run m.set threads events).stopped

-- the reply of a run to one event more
abbrev pub reply_to : Set → ℕ → List Event → Event → Reply
reply_to set threads events e = (step set (run set threads events) e).reply

-- a machine of any sort, which has a set and shows runs in its way, applies an event: whatever run
-- it showed, it shows that run with the event added, and it replies as that run does
pub record AppliesBy {M : Type 0} (set_of : M → Set) (ShowsRun : M → ℕ → List Event → Type 0)
    (before : M) (e : Event) (after : M) (reply : Reply) : Type 0 where
  pub set : set_of after ≡ set_of before
  pub shows : (threads : ℕ) (events : List Event) → ShowsRun before threads events
      → ShowsRun after threads (events ++ e ∷ [])
  pub replies : (threads : ℕ) (events : List Event) → ShowsRun before threads events
      → reply ≡ reply_to (set_of before) threads events e

abbrev pub Applies : Shown → Event → Shown → Reply → Type 0
Applies before e after reply = AppliesBy (λ m. m.set) Shows before e after reply

abbrev pub AppliesWhole : Machine → Event → Machine → Reply → Type 0
AppliesWhole before e after reply = AppliesBy (λ m. m.set) ShowsWhole before e after reply
