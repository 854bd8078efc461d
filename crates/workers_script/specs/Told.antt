-- What is told of the commands of a script.
use Rattle.std.specs.Prelude.{ℕ, ◌≡◌, ◌<◌, ◌≤◌, List, [], None, Option, Some, length, map, option_map, replicate, slice_get}
use Rattle.std.specs.List.{range_with_len}
use Rattle.model.specs.declared.event.Reply.{Reply}
use Rattle.model.specs.declared.event.Reply.TheVariants.{Topped}
use Rattle.model.specs.declared.history.Command.{Command}
use Rattle.model.specs.declared.history.Entry.{Entry}
use Rattle.model.specs.declared.history.Name.{Name}
use Rattle.model.specs.declared.history.Outcome.{Outcome}
use Rattle.model.specs.declared.history.TopOut.{TopOut}
use Rattle.model.specs.declared.limits.TheConstants.{MAX_HISTORY}
use Rattle.model.specs.History.{IsLegal, entry_named, outcome_named}
use Rattle.model.specs.Set.{Set}
use Rattle.hostcore.specs.Core.{CoreState}
use Rattle.workers_script.specs.declared.hosted.Hosted.{Hosted}
use Rattle.workers_script.specs.declared.hosted.Told.{Told}
use Rattle.workers_script.specs.Served.{AreStarted, HasServed, command_name}
use Rattle.workers_script.specs.Standing.{IsStanding}

-- how the packet of a request topped out, or else the reply
abbrev pub shown_as : Reply → Option TopOut → Reply
shown_as reply None = reply
shown_as reply (Some top) = Topped top.packet top.status top.info

abbrev pub shown : Outcome → Reply
shown outcome = shown_as outcome.reply outcome.topped

-- what is told of the command of a name: its outcome, or the reply of its entry while that is owed;
-- nothing where it has no entry
abbrev pub told_as : Option Outcome → Option Entry → Option Reply
told_as None entry = option_map (λ (e : Entry). e.reply) entry
told_as (Some outcome) entry = Some (shown outcome)

abbrev pub told_by : List Entry → Name → Option Reply
told_by history name = told_as (outcome_named history name) (entry_named history name)

-- what is told of the k-th command of a script, and of so many of them
abbrev pub told_of : List Entry → ℕ → Option Reply
told_of history k = told_by history (command_name k)

abbrev pub all_told : List Entry → ℕ → List (Option Reply)
all_told history count = map (told_of history) (range_with_len 0 count)

-- of the commands that had a ticket, the first so many, it is told at their places
pub record Tells (history : List Entry) (count : ℕ) (before after : List (Option Reply)) : Type 0
  where
    pub long : length after ≡ length before
    pub done : (k : ℕ) → k < count → slice_get after k ≡ Some (told_of history k)
    pub others : (k : ℕ) → count ≤ k → slice_get after k ≡ slice_get before k

-- a core of a set before its first entry, which may have as many as any
abbrev pub new_core : Set → ℕ → CoreState
new_core set threads = record {
  set = set;
  threads = threads;
  log = MAX_HISTORY;
  history = [];
  seats = replicate threads None;
}

-- what came of a script's commands: that of a history in which they were served, which the core has,
-- and what stands after it
pub record Hosts (set : Set) (threads : ℕ) (commands : List Command) (hosted : Hosted) : Type 0
  where
    pub history : List Entry
    pub served : HasServed set threads commands history
    pub started : AreStarted threads history hosted.ends
    pub told : hosted.told.items ≡ all_told history (length commands)
    pub entries : hosted.entries ≡ length history
    pub standing : IsStanding set threads history hosted.standing
    pub stored : hosted.core.history ≡ history

-- what came of the commands, of a core that served them and what was told of each: where threads
-- stand was looked at, and nothing else changed
pub record StandsAfter (set : Set) (threads : ℕ) (before : Told) (hosted : Hosted) : Type 0 where
  pub legal : IsLegal set threads before.core.history
  pub room : length before.core.history ≤ before.core.log
  pub told : hosted.told ≡ before.told
  pub ends : hosted.ends ≡ before.ends
  pub entries : hosted.entries ≡ length before.core.history
  pub standing : IsStanding set threads before.core.history hosted.standing
  pub stored : hosted.core.history ≡ before.core.history
