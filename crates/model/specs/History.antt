-- The history of a core: the events that were applied, in order, each with its reply. All of it is
-- this project's own.
use Rattle.std.specs.Prelude.{ℕ, ◌≡◌, ◌&&◌, Bool, true, false, List, [], ◌∷◌, map, Option, None, Some, nat_eq, option_and_then, option_map, unwrap_or, if◌then◌else◌}
use Rattle.std.specs.List.{find}
use Rattle.model.specs.declared.event.Event.{Event}
use Rattle.model.specs.declared.event.Event.TheVariants.{Issue, Cancel as CancelEvent, Interrupt as InterruptEvent, Dpc, StartIo, Step}
use Rattle.model.specs.declared.event.Reply.{Reply}
use Rattle.model.specs.declared.event.Reply.TheVariants.{Started, Stepped, Finished, Topped, Waited, Idle, Refused, Bug, Wrong}
use Rattle.model.specs.declared.history.Command.{Command}
use Rattle.model.specs.declared.history.Command.TheVariants.{Request, Cancel, Interrupt}
use Rattle.model.specs.declared.history.Entry.{Entry}
use Rattle.model.specs.declared.history.Name.{Name}
use Rattle.model.specs.declared.history.Outcome.{Outcome}
use Rattle.model.specs.declared.history.TopOut.{TopOut}
use Rattle.model.specs.declared.limits.TheConstants.{MAX_ISSUED}
use Rattle.model.specs.Run.{Run, begun, run, step}
use Rattle.model.specs.Set.{Set}
use Rattle.model.specs.World.{World}

abbrev pub events_of : List Entry → List Event
events_of history = map (λ (e : Entry). e.event) history

abbrev pub replies_of : List Entry → List Reply
replies_of history = map (λ (e : Entry). e.reply) history

-- the replies of a run to these events, and those of the run of all events
abbrev pub replies_from : Set → Run → List Event → List Reply
replies_from set r [] = []
replies_from set r (e ∷ events) = (step set r e).reply ∷ replies_from set (step set r e).run events

abbrev pub replies : Set → ℕ → List Event → List Reply
replies set threads events = replies_from set (begun set threads) events

-- a history is legal: each reply is the one that the run of its events makes there
abbrev pub IsLegal : Set → ℕ → List Entry → Type 0
IsLegal set threads history = replies_of history ≡ replies set threads (events_of history)

-- the world after it
abbrev pub world_after_all : Set → ℕ → List Entry → World
world_after_all set threads history = (run set threads (events_of history)).world

-- a reply that says that nothing has changed since the thread waits or has nothing to do: such an
-- event is not kept
abbrev pub is_kept : Reply → Bool
is_kept (Started packet) = true
is_kept Stepped = true
is_kept Finished = true
is_kept (Topped packet status info) = true
is_kept Waited = false
is_kept Idle = false
is_kept Refused = true
is_kept (Bug bug) = true
is_kept (Wrong place) = true

-- the first entry with a name
abbrev pub is_name : Name → Name → Bool
is_name a b = nat_eq a.submitter b.submitter && nat_eq a.count b.count

abbrev pub has_name : Option Name → Name → Bool
has_name None name = false
has_name (Some other) name = is_name other name

abbrev pub entry_named : List Entry → Name → Option Entry
entry_named history name = find (λ (e : Entry). has_name e.name name) history

-- the packet that an entry started, if it is a request's
abbrev pub started_by : Event → Reply → Option ℕ
started_by (Issue t d major argument) (Started n) = Some n
started_by (Issue t d major argument) Stepped = None
started_by (Issue t d major argument) Finished = None
started_by (Issue t d major argument) (Topped packet status info) = None
started_by (Issue t d major argument) Waited = None
started_by (Issue t d major argument) Idle = None
started_by (Issue t d major argument) Refused = None
started_by (Issue t d major argument) (Bug bug) = None
started_by (Issue t d major argument) (Wrong place) = None
started_by (CancelEvent t n level) reply = None
started_by (InterruptEvent d) reply = None
started_by (Dpc t d) reply = None
started_by (StartIo t d) reply = None
started_by (Step t) reply = None

abbrev pub request_started : Entry → Option ℕ
request_started e = started_by e.event e.reply

-- the packet of the request of a name; where it started none, a number that no packet ever has
abbrev pub packet_named : List Entry → Name → ℕ
packet_named history name =
    unwrap_or (option_and_then request_started (entry_named history name)) MAX_ISSUED

-- a command as an event on a thread
abbrev pub event_of : List Entry → ℕ → Command → Event
event_of history t (Request d major argument) = Issue t d major argument
event_of history t (Cancel name level) = CancelEvent t (packet_named history name) level
event_of history t (Interrupt d) = InterruptEvent d

-- how a packet topped out, by the first reply that says so
abbrev pub top_out_in : Reply → ℕ → Option TopOut
top_out_in (Topped packet status info) n =
    if nat_eq packet n then Some (record { packet = packet; status = status; info = info })
    else None
top_out_in (Started packet) n = None
top_out_in Stepped n = None
top_out_in Finished n = None
top_out_in Waited n = None
top_out_in Idle n = None
top_out_in Refused n = None
top_out_in (Bug bug) n = None
top_out_in (Wrong place) n = None

abbrev pub or_else : Option TopOut → Option TopOut → Option TopOut
or_else None other = other
or_else (Some top) other = Some top

abbrev pub top_out_of : List Reply → ℕ → Option TopOut
top_out_of [] n = None
top_out_of (reply ∷ replies) n = or_else (top_out_in reply n) (top_out_of replies n)

-- a command with its name
pub record NamedCommand : Type 0 where
  pub name : Name
  pub command : Command

-- what there is to tell of a command, by its entry: the reply alone, or with how the packet of its
-- request topped out; nothing while that isn't told
abbrev pub with_top_out : Reply → TopOut → Outcome
with_top_out reply top = record { reply = reply; topped = Some top }

abbrev pub outcome_with : List Reply → Reply → Option ℕ → Option Outcome
outcome_with replies reply None = Some (record { reply = reply; topped = None })
outcome_with replies reply (Some n) = option_map (with_top_out reply) (top_out_of replies n)

abbrev pub outcome_by : List Entry → Entry → Option Outcome
outcome_by history e = outcome_with (replies_of history) e.reply (request_started e)

abbrev pub outcome_named : List Entry → Name → Option Outcome
outcome_named history name = option_and_then (outcome_by history) (entry_named history name)
