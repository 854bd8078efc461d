-- Answers in colour.
use Rattle.std.specs.Prelude.{◌≡◌}
use Rattle.drvhost_devices.specs.Painted.{IsPainted}
use Rattle.drvhost_devices.specs.Answer.{Answer}
use Rattle.drvhost_devices.specs.declared.coloring.Coloring.{Coloring}
use Rattle.drvhost_devices.specs.declared.coloring.Coloring.TheVariants.{Auto, Always, Never}

-- an answer is another one, with its output painted
pub record IsPaintedAs (plain answer : Answer) : Type 0 where
  pub status : answer.status ≡ plain.status
  pub output : IsPainted plain.output answer.output
  pub told : answer.told ≡ plain.told

-- it is a right one, with its output painted
abbrev pub IsInColor : (Answer → Type 0) → Answer → Type 0
IsInColor Right answer = (plain : Answer) × Right plain × IsPaintedAs plain answer

-- what is right where colour is always chosen, or never; `Auto` is settled before
abbrev pub IsShown : Coloring → (Answer → Type 0) → Answer → Type 0
IsShown Auto Right = Right
IsShown Always Right = IsInColor Right
IsShown Never Right = Right
