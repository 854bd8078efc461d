-- A test of a driver set.
use Rattle.std.specs.Prelude.{ℕ, List}
use Rattle.drvhost_devices.specs.Answer.{Answer}

-- the name of its file, and what was answered to it
pub record Test : Type 0 where
  pub name : List ℕ
  pub answer : Answer
