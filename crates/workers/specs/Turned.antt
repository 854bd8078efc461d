-- One turn of a worker.
use Rattle.std.specs.Prelude.{ℕ, ◌≡◌, ◌⊎◌, ◌<◌, ◌+◌, ◌++◌, Bool, [], ◌∷◌, Option, None, Some, MatchBool, length, slice_get, if◌then◌else◌}
use Rattle.model.specs.declared.event.Event.{Event}
use Rattle.model.specs.declared.event.Event.TheVariants.{Dpc, StartIo, Step}
use Rattle.model.specs.declared.limits.TheConstants.{MAX_DEVICES}
use Rattle.model.specs.History.{NamedCommand}
use Rattle.model.specs.View.{busy_at, due_at}
use Rattle.model.specs.World.{World}
use Rattle.hostcore.specs.Core.{CoreState, entry_in, event_in, with_entry, world_of}
use Rattle.intake.specs.Ends.{TakerState}
use Rattle.workers.specs.declared.locked.Progress.{Progress}
use Rattle.workers.specs.declared.locked.Progress.TheVariants.{Advanced, Over, Stalled}
use Rattle.workers.specs.declared.turns.Turn.{Turn}
use Rattle.workers.specs.declared.turns.Turn.TheVariants.{Ended, Entered, Full, Rests, Waits}
use Rattle.workers.specs.Standing.{IsWaiting}

-- what an idle thread starts of a device: the front of its start list before its DPC
abbrev pub start_by : Bool × Bool → ℕ → ℕ → Option Event
start_by due t d =
    if due.0 then Some (StartIo t d) else (if due.1 then Some (Dpc t d) else None)

abbrev pub start_of : World → ℕ → ℕ → Option Event
start_of w t d = start_by (due_at w d) t d

-- what an idle thread starts: what is due of the least device that has anything due
abbrev pub IsFirstDue : World → ℕ → Option Event → Type 0
IsFirstDue w t None = (d : ℕ) → d < MAX_DEVICES → start_of w t d ≡ None
IsFirstDue w t (Some event) =
    (d : ℕ) × (start_of w t d ≡ Some event) × ((k : ℕ) → k < d → start_of w t k ≡ None)

-- what a thread does next of itself: a step if it is busy, else it starts what is due, if anything
abbrev pub IsNext : World → ℕ → Option Event → Type 0
IsNext w t event = MatchBool (busy_at w t) (event ≡ Some (Step t)) (IsFirstDue w t event)

-- a turn enters what the thread does next of itself
pub record Goes (t : ℕ) (before after : CoreState) : Type 0 where
  pub event : Event
  pub next : IsNext (world_of before) t (Some event)
  pub entered : after ≡ with_entry before (entry_in before t event None)

-- the taker took a command
abbrev pub took : TakerState → NamedCommand → TakerState
took taker asked = record taker { taken = taker.taken ++ asked ∷ [] }

-- it took one, or none
abbrev pub with_taken : TakerState → Option NamedCommand → TakerState
with_taken taker None = taker
with_taken taker (Some asked) = took taker asked

-- a turn takes a command and enters it, where the thread has nothing to do of itself
pub record TakesOne (t : ℕ) (before after : CoreState) (taker taker' : TakerState) : Type 0 where
  pub asked : NamedCommand
  pub next : IsNext (world_of before) t None
  pub taken : taker' ≡ took taker asked
  pub entered : after
      ≡ with_entry before (entry_in before t (event_in before t asked) (Some asked.name))

-- what a turn came to. Where it ended, the thread has nothing to do of itself. At a full history
-- nothing is entered, and a command that was taken is handed on
abbrev pub Turned : ℕ → CoreState → CoreState → TakerState → TakerState → Turn → Type 0
Turned t before after taker taker' Entered =
    (Goes t before after × (taker' ≡ taker)) ⊎ TakesOne t before after taker taker'
Turned t before after taker taker' Waits =
    IsWaiting before t × (after ≡ before) × (taker' ≡ taker)
Turned t before after taker taker' Rests = (after ≡ before) × (taker' ≡ taker)
Turned t before after taker taker' (Ended end) =
    IsNext (world_of before) t None × (after ≡ before) × (taker' ≡ taker) × (end ≡ t)
Turned t before after taker taker' (Full taken) =
    (length before.history ≡ before.log) × (after ≡ before) × (taker' ≡ with_taken taker taken)

-- what the turn of a worker came to, for that worker: an entry is one entry more, which its seat has
-- counted, and else nothing is entered. An end is the worker's own
abbrev pub Progressed : ℕ → CoreState → CoreState → Progress → Type 0
Progressed t before after (Advanced count) =
    (length after.history ≡ length before.history + 1)
    × (slice_get after.seats t ≡ Some (Some count))
Progressed t before after Stalled = after ≡ before
Progressed t before after (Over end) = (after ≡ before) × (end ≡ t)

-- an end that a turn came to is that of the worker of a thread
abbrev pub EndsFor : ℕ → Progress → Type 0
EndsFor t (Advanced count) = Unit {0}
EndsFor t Stalled = Unit {0}
EndsFor t (Over end) = end ≡ t
