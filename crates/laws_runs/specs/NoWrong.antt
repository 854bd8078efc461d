-- No run of an accepted set goes wrong.
use Rattle.std.specs.Prelude.{ℕ, ◌≢◌, List, All}
use Rattle.model.specs.declared.event.Event.{Event}
use Rattle.model.specs.declared.event.Place.{Place}
use Rattle.model.specs.declared.event.Reply.TheVariants.{Wrong}
use Rattle.model.specs.Action.{GoesWrong}
use Rattle.model.specs.Machine.{reply_to}
use Rattle.model.specs.Run.{run}
use Rattle.model.specs.Set.{Set}
use Rattle.model.specs.Sound.{IsSound}
use Rattle.model.specs.Trace.{Entry}
use Rattle.model.specs.Typable.{IsTypable}

-- nothing that went wrong is in the trace of a run, and no reply is that something went wrong: no
-- operand is of a wrong kind, no position is outside its routine, no `loop` or `end` is without its
-- loop, and the device of an activation, its locks and its cells are there
pub record NeverGoesWrong (set : Set) (threads : ℕ) (events : List Event) : Type 0 where
  pub trace : All (λ (e : Entry). e.action ≢ GoesWrong) (run set threads events).past
  pub replies : (e : Event) (place : Place) → reply_to set threads events e ≢ Wrong place

abbrev pub AcceptedRunsNeverGoWrong : Type 0
AcceptedRunsNeverGoWrong =
    (set : Set) → IsTypable set → IsSound set
    → (threads : ℕ) (events : List Event)
    → NeverGoesWrong set threads events
