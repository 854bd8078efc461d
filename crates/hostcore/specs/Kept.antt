-- What the type of a core keeps.
use Rattle.std.specs.Prelude.{ℕ, ◌≤◌, List, Option, All, IfSome, length}
use Rattle.model.specs.declared.event.Event.{Event}
use Rattle.model.specs.declared.limits.TheConstants.{MAX_HISTORY}
use Rattle.model.specs.History.{IsLegal, events_of}
use Rattle.model.specs.Machine.{Shows}
use Rattle.model.specs.Shown.{Shown}
use Rattle.laws_runs.specs.Rules.{KeepsTheRules}
use Rattle.hostcore.specs.Core.{Log}

-- its world is that of the run of its history, which is legal; its runs keep the rules; the history
-- has room, and no seat has counted more entries than there are
pub record IsKept (world : Shown) (threads : ℕ) (log : Log) (seats : List (Option ℕ))
    : Type 0 where
  pub shows : Shows world threads (events_of log.entries)
  pub legal : IsLegal world.set threads log.entries
  pub rules : (events : List Event) → KeepsTheRules world.set threads events
  pub room : length log.entries ≤ log.most
  pub short : log.most ≤ MAX_HISTORY
  pub counts : All (λ (seat : Option ℕ). IfSome seat (λ n. n ≤ length log.entries)) seats
