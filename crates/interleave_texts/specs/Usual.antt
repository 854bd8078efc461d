-- The usual form of a line: a word, and operands that each stand after one space.
use Rattle.std.specs.Prelude.{◌≡◌, ℕ, List, Option, Some, Result, Ok}
use Rattle.model.specs.declared.history.Command.{Command}
use Rattle.text.specs.Spaced.{spaced, ArePlain}
use Rattle.interleave.specs.declared.schedule.ScheduleKind.{ScheduleKind}

-- operands of which the exact reading makes this command, with nothing behind them
pub record Gives (reading : List (List ℕ) → Result (Option Command) ScheduleKind)
    (bytes : List ℕ) (command : Command) : Type 0 where
  pub words : List (List ℕ)
  pub parts : bytes ≡ spaced words
  pub plain : ArePlain words
  pub says : reading words ≡ Ok (Some command)
