-- What is carried along a run: what is known of the uses of stack locations, and which use each frame
-- serves that stands.
use Rattle.std.specs.Prelude.{ℕ, ◌≡◌, ◌-◌, ◌++◌, ◌∷◌, Bool, true, false, List, [], length, Option, None, Some, slice_get, slice_index_or, slice_set, if◌then◌else◌}
use Rattle.model.specs.declared.event.Event.{Event}
use Rattle.model.specs.declared.event.Reply.{Reply}
use Rattle.model.specs.declared.set.Sort.{Sort}
use Rattle.model.specs.declared.set.Sort.TheVariants.{Dispatch}
use Rattle.model.specs.declared.world.Activation.{Activation}
use Rattle.model.specs.declared.world.Frame.{Frame}
use Rattle.model.specs.declared.world.Frame.TheVariants.{Routine as RoutineFrame, Walk, Cancel as CancelFrame}
use Rattle.model.specs.declared.world.Value.{Value}
use Rattle.model.specs.declared.world.Value.TheVariants.{Ref}
use Rattle.model.specs.Machine.{reply_to}
use Rattle.model.specs.Run.{Run, frames_on, run}
use Rattle.model.specs.Set.{Set, sort_of}
use Rattle.model.specs.Sound.{IsSound}
use Rattle.model.specs.Trace.{Activated, Managing, Serving, Tag}
use Rattle.model.specs.Typable.{IsTypable}
use Rattle.model.specs.World.{World, register}
use Rattle.laws_runs.specs.Waits.{says_unchanged}
use Rattle.tell_uses.specs.declared.acts.UseStep.{UseStep}
use Rattle.tell_uses.specs.declared.ledger.Server.{Server}
use Rattle.tell_uses.specs.declared.ledger.Server.TheVariants.{Manager, Routine}
use Rattle.tell_uses.specs.Acts.{actions_of, use_step}
use Rattle.tell_uses.specs.Knowing.{Knows}
use Rattle.tell_uses.specs.Pending.{disagreeing, uses_of}
use Rattle.tell_uses.specs.Uses.{DoesAll, UsesState, current_at}

-- what stands for a frame's tag: whether it is a routine's, and the use that it serves
abbrev pub server_of : Tag → Server
server_of Managing = Manager
server_of (Activated g driver routine serving) = Routine serving

abbrev pub servers_of : List Tag → List Server
servers_of [] = []
servers_of (tag ∷ tags) = server_of tag ∷ servers_of tags

abbrev pub rows_of : List (List Tag) → List (List Server)
rows_of [] = []
rows_of (row ∷ rows) = servers_of row ∷ rows_of rows

pub record LedgerState : Type 0 where
  pub uses : UsesState
  pub rows : List (List Server)

-- it tells what a run's trace and its tags do
pub record Tells (r : Run) (l : LedgerState) : Type 0 where
  pub knows : Knows r.past l.uses
  pub rows : l.rows ≡ rows_of r.tags

-- the use that a thread's top frame serves
abbrev pub of_server : Server → Option Serving
of_server Manager = None
of_server (Routine serving) = serving

abbrev pub of_row : Option (List Server) → List Server
of_row None = []
of_row (Some row) = row

abbrev pub served_on : List (List Server) → ℕ → Option Serving
served_on rows t =
    of_server (slice_index_or (of_row (slice_get rows t))
    (length (of_row (slice_get rows t)) - 1) Manager)

-- the same of the frame at a place
abbrev pub served_at : List (List Server) → ℕ → ℕ → Option Serving
served_at rows t place = of_server (slice_index_or (of_row (slice_get rows t)) place Manager)

-- what stands for a frame that is new at its place
abbrev pub serving_as : ℕ → Option ℕ → Option Serving
serving_as n None = None
serving_as n (Some u) = Some (record { packet = n; «use» = u })

abbrev pub served_in : UsesState → Value → Option Serving
served_in l (Ref n) = serving_as n (current_at l n)
served_in l value = None

abbrev pub served_as : UsesState → Activation → Sort → Option Serving
served_as l a Dispatch = served_in l (register a 0)
served_as l a sort = None

abbrev pub new_server : Set → UsesState → Frame → Server
new_server set l (RoutineFrame a) =
    Routine (served_as l a (sort_of set a.driver a.routine))
new_server set l (Walk n) = Manager
new_server set l (CancelFrame c) = Manager

-- one that was a routine's and is a routine's serves what it served
abbrev pub stays : Server → Frame → Bool
stays (Routine serving) (RoutineFrame a) = true
stays (Routine serving) (Walk n) = false
stays (Routine serving) (CancelFrame c) = false
stays Manager (RoutineFrame a) = false
stays Manager (Walk n) = true
stays Manager (CancelFrame c) = true

abbrev pub settled_as : Set → UsesState → Server → Frame → Server
settled_as set l server f = if stays server f then server else new_server set l f

-- those of the frames that stand after an event
abbrev pub settled : Set → UsesState → List Server → List Frame → List Server
settled set l servers [] = []
settled set l [] (f ∷ frames) = new_server set l f ∷ settled set l [] frames
settled set l (server ∷ servers) (f ∷ frames) =
    settled_as set l server f ∷ settled set l servers frames

-- one place of them
abbrev pub settled_at : Set → UsesState → List Server → ℕ → Frame → Option Server → List Server
settled_at set l servers k f None = servers ++ new_server set l f ∷ []
settled_at set l servers k f (Some server) =
    if stays server f then servers else slice_set servers k (new_server set l f)

abbrev pub settled_place : Set → UsesState → List Server → ℕ → Option Frame → List Server
settled_place set l servers k None = servers
settled_place set l servers k (Some f) = settled_at set l servers k f (slice_get servers k)

-- a thread's frames stand as in a world
abbrev pub row_settled : Set → World → UsesState → ℕ → List (List Server)
    → Option (List Server) → List (List Server)
row_settled set w l t rows None = rows
row_settled set w l t rows (Some row) =
    slice_set rows t (settled set l row (frames_on w t))

-- what becomes of it when an event on a thread, which leaves this world, does a step to the uses
pub record Notes (set : Set) (w : World) (t : ℕ) (step : UseStep) (l m : LedgerState)
    : Type 0 where
  pub uses : DoesAll (served_on l.rows t) (actions_of step) l.uses m.uses
  pub rows : m.rows ≡ row_settled set w m.uses t l.rows (slice_get l.rows t)

-- where its reply says that nothing changes, or it is about no thread, nothing does
abbrev pub NotesIf : Set → World → ℕ → UseStep → Bool → LedgerState → LedgerState → Type 0
NotesIf set w t step true l m = m ≡ l
NotesIf set w t step false l m = Notes set w t step l m

abbrev pub NotesOn : Set → World → Option ℕ → UseStep → Reply → LedgerState → LedgerState → Type 0
NotesOn set w None step reply l m = m ≡ l
NotesOn set w (Some t) step reply l m = NotesIf set w t step (says_unchanged reply) l m

-- an event more of a run is noted
abbrev pub TellsOn : Set → World → Event → UseStep → Reply → LedgerState → LedgerState → Type 0
TellsOn set w e step reply l m =
    (threads : ℕ) (events : List Event) → step ≡ use_step set (run set threads events).world e
    → reply ≡ reply_to set threads events e → w ≡ (run set threads (events ++ e ∷ [])).world
    → Tells (run set threads events) l → Tells (run set threads (events ++ e ∷ [])) m

-- these are the uses of a run that disagree, whatever run it tells
abbrev pub Disagreeing : LedgerState → List Serving → Type 0
Disagreeing l found =
    (set : Set) (threads : ℕ) (events : List Event) → Tells (run set threads events) l
    → found ≡ disagreeing (run set threads events).past (uses_of (run set threads events).past)

-- there are none, if that is one of an accepted set
abbrev pub NoneIfAccepted : LedgerState → List Serving → Type 0
NoneIfAccepted l found =
    (set : Set) (threads : ℕ) (events : List Event) → IsTypable set → IsSound set
    → Tells (run set threads events) l → found ≡ []
