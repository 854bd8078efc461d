-- What contracts see of a core, and what its calls do to that.
use Rattle.std.specs.Prelude.{ℕ, ◌≡◌, ◌+◌, ◌⊎◌, ◌++◌, ◌||◌, true, List, [], ◌∷◌, Option, None, Some, is_some, slice_get, slice_set, if◌then◌else◌}
use Rattle.model.specs.declared.event.Event.{Event}
use Rattle.model.specs.declared.event.Reply.{Reply}
use Rattle.model.specs.declared.history.Entry.{Entry}
use Rattle.model.specs.declared.history.Name.{Name}
use Rattle.model.specs.History.{NamedCommand, entry_named, event_of, events_of, is_kept, request_started, world_after_all}
use Rattle.model.specs.Machine.{reply_to}
use Rattle.model.specs.Set.{Set}
use Rattle.model.specs.World.{World, packet_of}

-- a history with how many entries it may have
pub record Log : Type 0 where
  pub most : ℕ
  pub entries : List Entry

-- a core: its set and threads, how many entries its history may have, the history, and of each
-- thread, where its seat is given out, how many entries were made with it
pub record CoreState : Type 0 where
  pub set : Set
  pub threads : ℕ
  pub log : ℕ
  pub history : List Entry
  pub seats : List (Option ℕ)

-- the world after its history
abbrev pub world_of : CoreState → World
world_of c = world_after_all c.set c.threads c.history

-- what the run of its history replies to one event more
abbrev pub reply_in : CoreState → Event → Reply
reply_in c e = reply_to c.set c.threads (events_of c.history) e

-- how many entries a seat has counted, where it is given out
abbrev pub count_of : Option (Option ℕ) → ℕ
count_of None = 0
count_of (Some None) = 0
count_of (Some (Some count)) = count

-- the seat of a thread counts one entry more, where it is given out
abbrev pub counted_at : List (Option ℕ) → ℕ → Option (Option ℕ) → List (Option ℕ)
counted_at seats t None = seats
counted_at seats t (Some None) = seats
counted_at seats t (Some (Some count)) = slice_set seats t (Some (count + 1))

abbrev pub counted : List (Option ℕ) → ℕ → List (Option ℕ)
counted seats t = counted_at seats t (slice_get seats t)

-- an entry is made with the seat of its thread, which counts it
abbrev pub with_entry : CoreState → Entry → CoreState
with_entry c e = record c { history = c.history ++ e ∷ []; seats = counted c.seats e.thread }

-- an event enters with the seat of a thread: it becomes an entry where it performs a command, and
-- else unless the thread waits or has nothing to do
abbrev pub entry_in : CoreState → ℕ → Event → Option Name → Entry
entry_in c t e name = record { thread = t; event = e; reply = reply_in c e; name = name }

abbrev pub entered : CoreState → ℕ → Event → Option Name → CoreState
entered c t e name =
    if is_some name || is_kept (reply_in c e) then with_entry c (entry_in c t e name) else c

-- a command enters as its event on the seat's thread
abbrev pub event_in : CoreState → ℕ → NamedCommand → Event
event_in c t asked = event_of c.history t asked.command

abbrev pub performed : CoreState → ℕ → NamedCommand → CoreState
performed c t asked = entered c t (event_in c t asked) (Some asked.name)

-- a command's outcome is still owed: it has no entry, or the packet of its request is live
pub record StartedLive (c : CoreState) (e : Entry) : Type 0 where
  pub number : ℕ
  pub started : request_started e ≡ Some number
  pub live : is_some (packet_of (world_of c).shared number) ≡ true

pub record WaitsForPacket (c : CoreState) (name : Name) : Type 0 where
  pub entry : Entry
  pub found : entry_named c.history name ≡ Some entry
  pub waits : StartedLive c entry

abbrev pub IsOwed : CoreState → Name → Type 0
IsOwed c name = (entry_named c.history name ≡ None) ⊎ WaitsForPacket c name
