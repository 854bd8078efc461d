-- Two runs that have led to one world go on alike, whatever their pasts are.
use Rattle.std.specs.Prelude.{ℕ, ◌≡◌, ◌++◌, List, [], ◌∷◌}
use Rattle.model.specs.declared.event.Event.{Event}
use Rattle.model.specs.Machine.{reply_to}
use Rattle.model.specs.Run.{run}
use Rattle.model.specs.Set.{Set}
use Rattle.model.specs.Sound.{IsSound}

-- two runs stand alike: they have led to one world, and both have stopped, or neither has
pub record StandAlike (set : Set) (threads : ℕ) (events : List Event) (more : ℕ)
    (others : List Event) : Type 0 where
  pub world : (run set threads events).world ≡ (run set more others).world
  pub stopped : (run set threads events).stopped ≡ (run set more others).stopped

-- they do so after an event too, which both answer alike
pub record GoOnAlike (set : Set) (threads : ℕ) (events : List Event) (more : ℕ)
    (others : List Event) (e : Event) : Type 0 where
  pub stand : StandAlike set threads (events ++ e ∷ []) more (others ++ e ∷ [])
  pub replies : reply_to set threads events e ≡ reply_to set more others e

abbrev pub SameWorldsGoOnAlike : Type 0
SameWorldsGoOnAlike =
    (set : Set) → IsSound set
    → (threads : ℕ) (events : List Event) (more : ℕ) (others : List Event) (e : Event)
    → StandAlike set threads events more others → GoOnAlike set threads events more others e
