-- Where the locks of each driver have an order, no threads wait for each other in a ring.
use Rattle.std.specs.Prelude.{ℕ, ◌≡◌, true, false, List}
use Rattle.model.specs.declared.event.Event.{Event}
use Rattle.model.specs.declared.event.Event.TheVariants.{Step}
use Rattle.model.specs.Machine.{reply_to}
use Rattle.model.specs.Run.{run}
use Rattle.model.specs.Set.{Set}
use Rattle.model.specs.View.{busy_at}
use Rattle.laws_runs.specs.Waits.{says_unchanged}
use Rattle.laws_runs.specs.Waiting.{WaitInTurn}

-- a thread with frames whose step changes something: it doesn't wait
pub record GoesOn (set : Set) (threads : ℕ) (events : List Event) (t : ℕ) : Type 0 where
  pub busy : busy_at (run set threads events).world t ≡ true
  pub on : says_unchanged (reply_to set threads events (Step t)) ≡ false

-- in the world of a run no thread waits for itself, through whichever others; and while a thread
-- has frames, one that has frames goes on
pub record HasNoRing (set : Set) (threads : ℕ) (events : List Event) : Type 0 where
  pub none : (t : ℕ) (between : List ℕ)
      → WaitInTurn set (run set threads events).world t between t → ⊥
  pub on : (t : ℕ) → busy_at (run set threads events).world t ≡ true
      → (u : ℕ) × GoesOn set threads events u
