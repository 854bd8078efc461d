-- What contracts see of the ends of workers.
use Rattle.std.specs.Prelude.{ℕ, ◌≡◌}

-- so many workers were started, and of so many of them, from the first one on, the end is missing
pub record EndsState : Type 0 where
  pub missing : ℕ
  pub started : ℕ

-- each of so many workers has ended
abbrev pub HaveEnded : ℕ → EndsState → Type 0
HaveEnded started ends = ends ≡ record { missing = 0; started = started }
