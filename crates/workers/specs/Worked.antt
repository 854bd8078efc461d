-- What the entries of a worker have to do with the commands that its taker took.
use Rattle.std.specs.Prelude.{ℕ, ◌≡◌, ◌≢◌, ◌⊎◌, ◌++◌, List, [], ◌∷◌, None, Some, count_by, is_some, nat_eq, sum_by, length}
use Rattle.model.specs.declared.event.Event.{Event}
use Rattle.model.specs.declared.event.Event.TheVariants.{Dpc, StartIo, Step}
use Rattle.model.specs.declared.history.Entry.{Entry}
use Rattle.model.specs.History.{NamedCommand, event_of}
use Rattle.intake.specs.Ends.{TakerState}

-- how many of these entries are of a thread, and how many perform a command
abbrev pub count_of_thread : ℕ → List Entry → ℕ
count_of_thread t entries = count_by (λ (e : Entry). nat_eq e.thread t) entries

abbrev pub count_named : List Entry → ℕ
count_named entries = count_by (λ (e : Entry). is_some e.name) entries

-- an event of a thread's own: a step, or the start of what is due of a device
abbrev pub IsOwnEvent : ℕ → Event → Type 0
IsOwnEvent t event = (event ≡ Step t) ⊎ ((d : ℕ) × ((event ≡ StartIo t d) ⊎ (event ≡ Dpc t d)))

pub record IsOwn (t : ℕ) (e : Entry) : Type 0 where
  pub thread : e.thread ≡ t
  pub event : IsOwnEvent t e.event
  pub name : e.name ≡ None

-- an entry that performs a command on a thread: the event that the command is after this history,
-- under the command's name
pub record IsCommand (history : List Entry) (t : ℕ) (asked : NamedCommand) (e : Entry)
    : Type 0 where
  pub thread : e.thread ≡ t
  pub event : e.event ≡ event_of history t asked.command
  pub name : e.name ≡ Some asked.name

-- of the entries that follow a history, those of a thread are its own and those that perform
-- these commands, each once, in this order
pub data Performs (before : List Entry) (t : ℕ) : List Entry → List NamedCommand → Type 0 where
  nothing : Performs before t [] []
  elsewhere : (new : List Entry) (done : List NamedCommand) (e : Entry) → e.thread ≢ t
      → Performs before t new done → Performs before t (new ++ e ∷ []) done
  own : (new : List Entry) (done : List NamedCommand) (e : Entry) → IsOwn t e
      → Performs before t new done → Performs before t (new ++ e ∷ []) done
  command : (new : List Entry) (done : List NamedCommand) (e : Entry) (asked : NamedCommand)
      → IsCommand (before ++ new) t asked e
      → Performs before t new done → Performs before t (new ++ e ∷ []) (done ++ asked ∷ [])

-- what the worker of a thread did: its taker took the commands that it performed, and then those
-- that it kept
pub record Worked (before new : List Entry) (t : ℕ) (began ended : TakerState)
    (kept : List NamedCommand) : Type 0 where
  pub queue : ended.queue ≡ began.queue
  pub share : ended.share ≡ began.share
  pub done : List NamedCommand
  pub performs : Performs before t new done
  pub taken : ended.taken ≡ began.taken ++ done ++ kept

-- how many commands these takers took
abbrev pub count_taken : List TakerState → ℕ
count_taken takers = sum_by (λ (t : TakerState). length t.taken) takers
