-- A history in which threads served the commands of a script.
use Rattle.std.specs.Prelude.{ℕ, ◌≡◌, ◌+◌, ◌++◌, ◌<◌, ◌≤◌, ◌⊎◌, List, [], ◌∷◌, All, None, Some, count_by, length, slice_get}
use Rattle.model.specs.declared.history.Command.{Command}
use Rattle.model.specs.declared.history.Entry.{Entry}
use Rattle.model.specs.declared.history.Name.{Name}
use Rattle.model.specs.declared.limits.TheConstants.{MAX_HISTORY}
use Rattle.model.specs.History.{NamedCommand, entry_named, has_name}
use Rattle.model.specs.Set.{Set}
use Rattle.intake.specs.Lists.{name_of}
use Rattle.workers.specs.Ended.{EndsState, HaveEnded}
use Rattle.workers.specs.Worked.{IsCommand, IsOwn}
use Rattle.workers_script.specs.Replay.{Replays}

-- the name of the k-th command of a script, which has one submitter
abbrev pub command_name : ℕ → Name
command_name k = name_of 0 k

abbrev pub named_at : ℕ → Command → NamedCommand
named_at k command = record { name = command_name k; command = command }

-- commands under their names, of which the first has the number k
abbrev pub named_from : ℕ → List Command → List NamedCommand
named_from k [] = []
named_from k (command ∷ commands) = named_at k command ∷ named_from (k + 1) commands

-- a command stands once in a history: one entry has its name, and performs it on its thread
pub record StandsOnce (history : List Entry) (asked : NamedCommand) : Type 0 where
  pub before : List Entry
  pub entry : Entry
  pub after : List Entry
  pub parts : history ≡ before ++ entry ∷ after
  pub performs : IsCommand before entry.thread asked entry
  pub once : count_by (λ (e : Entry). has_name e.name asked.name) history ≡ 1

-- a command was left: no entry has its name
abbrev pub IsLeft : List Entry → NamedCommand → Type 0
IsLeft history asked = entry_named history asked.name ≡ None

-- an entry has the name of a command of the script
pub record IsOfScript (commands : List Command) (e : Entry) : Type 0 where
  pub number : ℕ
  pub command : Command
  pub found : slice_get commands number ≡ Some command
  pub name : e.name ≡ Some (command_name number)

-- each command of a script stands once in a history or was left, and each other entry is a step or a
-- start of its thread's own, of so many threads
pub record Accounts (threads : ℕ) (commands : List Command) (history : List Entry) : Type 0 where
  pub seated : All (λ (e : Entry). e.thread < threads) history
  pub each : (k : ℕ) (c : Command) → slice_get commands k ≡ Some c
      → StandsOnce history (named_at k c) ⊎ IsLeft history (named_at k c)
  pub others : All (λ (e : Entry). IsOwn e.thread e ⊎ IsOfScript commands e) history

-- of so many workers the first ones were started, at least one. Each of these has ended, and each
-- entry of the history is of the thread of one of them
pub record AreStarted (workers : ℕ) (history : List Entry) (ends : EndsState) : Type 0 where
  pub ended : HaveEnded ends.started ends
  pub some : 1 ≤ ends.started
  pub few : ends.started ≤ workers
  pub seated : All (λ (e : Entry). e.thread < ends.started) history

-- a history that the run of its events answers as it tells, in which so many threads served the
-- commands of a script
pub record HasServed (set : Set) (threads : ℕ) (commands : List Command) (history : List Entry)
    : Type 0 where
  pub replays : Replays set threads history
  pub short : length history ≤ MAX_HISTORY
  pub accounts : Accounts threads commands history
