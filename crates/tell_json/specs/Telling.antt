-- The events of a run, told as they happen.
use Rattle.std.specs.Prelude.{◌++◌, ℕ, Bool, true, false, List, [], ◌∷◌}
use Rattle.model.specs.declared.event.Event.{Event}
use Rattle.model.specs.declared.event.Reply.{Reply}
use Rattle.model.specs.declared.event.Reply.TheVariants.{Refused}
use Rattle.model.specs.Machine.{Machine, ShowsWhole}
use Rattle.model.specs.Run.{run}
use Rattle.tell_uses.specs.Ledger.{LedgerState, Tells as TellsRun}

-- a reply to an event that was refused
abbrev pub is_refused : Reply → Bool
is_refused Refused = true
is_refused _ = false

-- a ledger that tells a run that a machine shows becomes one that tells it with an event added
abbrev pub LedgerGoesOn : Machine → Event → LedgerState → LedgerState → Type 0
LedgerGoesOn m e l k =
    (threads : ℕ) (events : List Event) → ShowsWhole m threads events
    → TellsRun (run m.set threads events) l → TellsRun (run m.set threads (events ++ e ∷ [])) k
