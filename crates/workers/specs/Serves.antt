-- What a call of `serve` does.
use Rattle.std.specs.Prelude.{ℕ, zero, suc, ◌≡◌, ◌<◌, ◌≤◌, ◌+◌, ◌++◌, true, false, List, [], All, Some, length, map, slice_get, sum}
use Rattle.std.specs.List.{range_with_len}
use Rattle.model.specs.declared.history.Entry.{Entry}
use Rattle.model.specs.History.{NamedCommand}
use Rattle.hostcore.specs.Core.{CoreState}
use Rattle.intake.specs.Ends.{TakerState}
use Rattle.workers.specs.declared.served.Served.{Served}
use Rattle.workers.specs.Ended.{HaveEnded}
use Rattle.workers.specs.Worked.{Worked, count_named, count_of_thread, count_taken}

-- what the first so many workers keep
abbrev pub gathered : (ℕ → List NamedCommand) → ℕ → List NamedCommand
gathered kept zero = []
gathered kept (suc i) = gathered kept i ++ kept i

-- The core comes back with new entries, each of the thread of a worker that was started. Worker i
-- has thread i: of its thread as many entries are new as it counted; these are its own steps and
-- starts, and they perform commands. What it performed, each command once and in order, and what it
-- kept is what its taker took. What all kept is held. Each worker that was started has ended, and
-- those that were not have counted nothing and taken nothing
pub record Serves (began : CoreState) (takers : List TakerState) (ended : Served) : Type 0 where
  pub new : List Entry
  pub core : ended.core ≡ record began { history = began.history ++ new }
  pub started : ended.started ≤ length takers
  pub ends : HaveEnded ended.started ended.ends
  pub workers : All (λ (e : Entry). e.thread < ended.started) new
  pub counts : ended.counts.items
      ≡ map (λ i. count_of_thread i new) (range_with_len 0 (length takers))
  pub total : sum ended.counts.items ≡ length new
  pub unstarted : (i : ℕ) → ended.started ≤ i → i < length takers
      → slice_get ended.counts.items i ≡ Some 0
  pub untaken : (i : ℕ) → ended.started ≤ i
      → slice_get ended.takers.items i ≡ slice_get takers i
  pub count : length ended.takers.items ≡ length takers
  pub kept : ℕ → List NamedCommand
  pub each : (i : ℕ) (b a : TakerState) → slice_get takers i ≡ Some b
      → slice_get ended.takers.items i ≡ Some a → Worked began.history new i b a (kept i)
  pub held : ended.held.items ≡ gathered kept (length takers)
  pub taken : count_named new + length ended.held.items + count_taken takers
      ≡ count_taken ended.takers.items
  pub holds : ended.full ≡ false → ended.held.items ≡ []
  pub full : ended.full ≡ true → length ended.core.history ≡ ended.core.log
