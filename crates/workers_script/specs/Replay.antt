-- The run of a history's events.
use Rattle.std.specs.Prelude.{ℕ, List}
use Rattle.std.specs.List.{All}
use Rattle.model.specs.declared.history.Entry.{Entry}
use Rattle.model.specs.History.{IsLegal}
use Rattle.model.specs.Set.{Set}
use Rattle.laws_runs.specs.NeverStops.{LetsGoOn}

-- the run of a history's events answers each of them as the history tells, and no reply stops it
pub record Replays (set : Set) (threads : ℕ) (history : List Entry) : Type 0 where
  pub legal : IsLegal set threads history
  pub lasting : All (λ (e : Entry). LetsGoOn e.reply) history
