-- Runs of an accepted set that a machine may not tell apart go on alike.
use Rattle.std.specs.Prelude.{ℕ, ◌≡◌, List}
use Rattle.model.specs.declared.event.Event.{Event}
use Rattle.model.specs.Machine.{reply_to}
use Rattle.model.specs.Run.{run, step}
use Rattle.model.specs.Set.{Set}
use Rattle.model.specs.Shown.{ShowsWorld, whole}
use Rattle.model.specs.Sound.{IsSound}
use Rattle.model.specs.Typable.{IsTypable}
use Rattle.model.specs.World.{World}

-- the world of a run after one event more
abbrev pub world_after : Set → ℕ → List Event → Event → World
world_after set threads events e = (step set (run set threads events) e).run.world

-- what shows one run shows the other: so it is after an event too, which both answer alike
pub record GoOnAlike (set : Set) (threads : ℕ) (events : List Event) (others : ℕ)
    (other : List Event) (e : Event) : Type 0 where
  pub shows : ShowsWorld (whole set (world_after set threads events e))
      (world_after set others other e)
  pub replies : reply_to set threads events e ≡ reply_to set others other e

abbrev pub AlikeRunsGoOnAlike : Type 0
AlikeRunsGoOnAlike =
    (set : Set) → IsTypable set → IsSound set
    → (threads : ℕ) (events : List Event) (others : ℕ) (other : List Event) (e : Event)
    → ShowsWorld (whole set (run set threads events).world) (run set others other).world
    → GoOnAlike set threads events others other e
