-- How a run ends amiss: at a bug check or a wrong operand, or in a world in which an audit finds a
-- packet that no place names, a lock that an idle thread owns, a thread that waits in a ring, or a use
-- of a stack location that was returned from otherwise than it was marked.
use Rattle.std.specs.Prelude.{ℕ, ◌≡◌, ◌++◌, List, [], ◌∷◌, length, Option, None, Some, false, true}
use Rattle.tell_audit.specs.declared.amiss.Amiss.{Amiss}
use Rattle.tell_audit.specs.declared.amiss.Amiss.TheVariants.{Stopped, Lost, Left, Ringed, Disagrees}
use Rattle.tell_audit.specs.declared.ending.Ending.{Ending}
use Rattle.tell_audit.specs.declared.ending.Ending.TheVariants.{Fails, Stuck}
use Rattle.tell_audit.specs.declared.standing.Standing.{Standing}
use Rattle.tell_audit.specs.Rest.{IsStanding, is_rest}
use Rattle.model.specs.declared.event.Event.{Event}
use Rattle.model.specs.declared.event.Reply.{Reply}
use Rattle.model.specs.declared.event.Reply.TheVariants.{Started, Stepped, Finished, Topped, Waited, Idle, Refused, Bug, Wrong}
use Rattle.model.specs.Machine.{Machine, ShowsWhole, reply_to}
use Rattle.model.specs.Run.{Run, run}
use Rattle.model.specs.Set.{Set}
use Rattle.model.specs.Trace.{Serving}
use Rattle.model.specs.World.{World}
use Rattle.tell_audit.specs.declared.left.LeftLock.{LeftLock}
use Rattle.tell_audit.specs.Findings.{ringed_threads}
use Rattle.tell_audit.specs.Left.{left_locks}
use Rattle.tell_audit.specs.Naming.{lost_packets}
use Rattle.tell_uses.specs.Ledger.{LedgerState, Tells}
use Rattle.tell_uses.specs.Pending.{disagreeing, uses_of}

-- a reply that stops the run
abbrev pub stops_with : Reply → Option Amiss
stops_with (Bug bug) = Some (Stopped (Bug bug))
stops_with (Wrong place) = Some (Stopped (Wrong place))
stops_with (Started packet) = None
stops_with Stepped = None
stops_with Finished = None
stops_with (Topped packet status info) = None
stops_with Waited = None
stops_with Idle = None
stops_with Refused = None

-- the first of what an audit finds
abbrev pub first_of : List ℕ → List LeftLock → List ℕ → List Serving → Option Amiss
first_of (n ∷ lost) left ringed uses = Some (Lost n)
first_of [] (lock ∷ left) ringed uses = Some (Left lock)
first_of [] [] (t ∷ ringed) uses = Some (Ringed t)
first_of [] [] [] (u ∷ uses) = Some (Disagrees u)
first_of [] [] [] [] = None

-- what is amiss in the world and the trace of a run
abbrev pub amiss_in : Set → Run → Option Amiss
amiss_in set r =
    first_of (lost_packets r.world) (left_locks r.world (length set.devices))
    (ringed_threads set r.world) (disagreeing r.past (uses_of r.past))

-- and where its last event had this reply
abbrev pub or_amiss : Option Amiss → Option Amiss → Option Amiss
or_amiss (Some stop) amiss = Some stop
or_amiss None amiss = amiss

-- what is amiss behind the last event of a run
abbrev pub amiss_after : Set → ℕ → List Event → Event → Option Amiss
amiss_after set threads before e =
    or_amiss (stops_with (reply_to set threads before e))
    (amiss_in set (run set threads (before ++ e ∷ [])))

-- nothing is amiss, and this isn't at rest in a world
pub record StandsFine (amiss : Option Amiss) (w : World) (standing : Standing) : Type 0 where
  pub fine : amiss ≡ None
  pub shows : IsStanding w standing

-- so a run has ended in a world, where this is amiss: with that, or with nothing amiss and something
-- that isn't at rest, or at rest
abbrev pub EndsAs : Option Amiss → World → Option Ending → Type 0
EndsAs amiss w (Some (Fails found)) = amiss ≡ Some found
EndsAs amiss w (Some (Stuck standing)) =
    StandsFine amiss w standing × (is_rest standing ≡ false)
EndsAs amiss w None =
    (standing : Standing) × StandsFine amiss w standing × (is_rest standing ≡ true)

-- so the run of these events and a last one ends
abbrev pub EndsSo : Set → ℕ → List Event → Event → Option Ending → Type 0
EndsSo set threads before last =
    EndsAs (amiss_after set threads before last) (run set threads (before ++ last ∷ [])).world

-- a machine, and a ledger of its run
pub record Rehearsed : Type 0 where
  pub machine : Machine
  pub ledger : LedgerState

-- they show the run of these events over a set
pub record Rehearses (set : Set) (threads : ℕ) (events : List Event) (r : Rehearsed) : Type 0 where
  pub over : r.machine.set ≡ set
  pub shows : ShowsWhole r.machine threads events
  pub tells : Tells (run set threads events) r.ledger

-- an event was applied: whatever run they showed, they show it with the event added
pub record GoesOn (before : Rehearsed) (e : Event) (after : Rehearsed) (reply : Reply) : Type 0 where
  pub shows : (set : Set) (threads : ℕ) (events : List Event) → Rehearses set threads events before
      → Rehearses set threads (events ++ e ∷ []) after
  pub replies : (set : Set) (threads : ℕ) (events : List Event)
      → Rehearses set threads events before → reply ≡ reply_to set threads events e

-- what is amiss now, whatever run they show, where its last event had this reply
abbrev pub IsAmissNow : Rehearsed → Reply → Option Amiss → Type 0
IsAmissNow r reply amiss =
    (set : Set) (threads : ℕ) (events : List Event) → Rehearses set threads events r
    → amiss ≡ or_amiss (stops_with reply) (amiss_in set (run set threads events))
