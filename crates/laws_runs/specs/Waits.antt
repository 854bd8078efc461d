-- An event that waits, finds nothing to do or is refused leaves the world as it was.
use Rattle.std.specs.Prelude.{ℕ, ◌≡◌, ◌++◌, Bool, true, false, List, [], ◌∷◌}
use Rattle.model.specs.declared.event.Event.{Event}
use Rattle.model.specs.declared.event.Reply.{Reply}
use Rattle.model.specs.declared.event.Reply.TheVariants.{Started, Stepped, Finished, Topped, Waited, Idle, Refused, Bug, Wrong}
use Rattle.model.specs.Machine.{reply_to}
use Rattle.model.specs.Run.{run}
use Rattle.model.specs.Set.{Set}

-- a reply that says that nothing has changed
abbrev pub says_unchanged : Reply → Bool
says_unchanged (Started packet) = false
says_unchanged Stepped = false
says_unchanged Finished = false
says_unchanged (Topped packet status info) = false
says_unchanged Waited = true
says_unchanged Idle = true
says_unchanged Refused = true
says_unchanged (Bug bug) = false
says_unchanged (Wrong place) = false

abbrev pub WaitingChangesNothing : Type 0
WaitingChangesNothing =
    (set : Set) (threads : ℕ) (events : List Event) (e : Event)
    → says_unchanged (reply_to set threads events e) ≡ true
    → (run set threads (events ++ e ∷ [])).world ≡ (run set threads events).world
