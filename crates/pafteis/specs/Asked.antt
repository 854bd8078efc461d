-- What an exported function answers that tells something of the accepted set that bytes name.
use Rattle.std.specs.Prelude.{ℕ, ◌≡◌, ◌⊎◌, List, Option, Some, Result, Ok, Err}
use Rattle.pafteis.specs.Driving.{IsToldIf}
use Rattle.pafteis_values.specs.declared.locks.LockOrderValue.{LockOrderValue}
use Rattle.pafteis_values.specs.declared.shape.DeviceValue.{DeviceValue}
use Rattle.pafteis_values.specs.declared.shape.RoutineValue.{RoutineValue}
use Rattle.pafteis_values.specs.declared.shape.SetValue.{SetValue}
use Rattle.pafteis_values.specs.declared.verdict.Verdict.{Verdict}
use Rattle.pafteis_values.specs.declared.verdict.VerdictValue.{VerdictValue}
use Rattle.pafteis_values.specs.Locks.{order_value}
use Rattle.pafteis_values.specs.Verdict.{no_value, status_number, verdict_value}
use Rattle.pafteis_world.specs.Judged.{IsTurnedAway}
use Rattle.pafteis_world.specs.Locks.{OrdersLocks}
use Rattle.pafteis_world.specs.Shape.{IsDeviceOf, IsRoutineOf, IsShapeOf}

-- the set is accepted, and what was asked for is told, with the status 0; 4 where there is no such
-- thing, and nothing is told
pub record IsSetTold {A V : Type 0} (Is : Option A → Type 0) (value_of : A → V) (before after : V)
    (value : VerdictValue) (status : ℕ) : Type 0 where
  pub answer : Option A
  pub right : Is answer
  pub told : IsToldIf value_of (Some answer) before after status
  pub nothing : value ≡ no_value

-- the set isn't accepted, and the verdict says why
pub record IsTurnedAwayAs {V : Type 0} (bytes : List ℕ) (before after : V) (value : VerdictValue)
    (status : ℕ) : Type 0 where
  pub verdict : Verdict
  pub why : IsTurnedAway bytes verdict
  pub same : after ≡ before
  pub told : value ≡ verdict_value verdict
  pub is : status ≡ status_number verdict

abbrev pub TellsOfSet : {A V : Type 0} → List ℕ → (Option A → Type 0) → (A → V) → V → V
    → VerdictValue → ℕ → Type 0
TellsOfSet {A} {V} bytes Is value_of before after value status =
    IsSetTold {A = A} {V = V} Is value_of before after value status
    ⊎ IsTurnedAwayAs {V = V} bytes before after value status

-- what was found of an accepted set is told, or why it isn't accepted
abbrev pub TellsFound : {V : Type 0} → Result (Option V) Verdict → V → V → VerdictValue → ℕ → Type 0
TellsFound (Ok answer) before after value status =
    IsToldIf (λ v. v) (Some answer) before after status × (value ≡ no_value)
TellsFound (Err why) before after value status =
    (after ≡ before) × (value ≡ verdict_value why) × (status ≡ status_number why)

-- the order of a driver's locks, or a cycle
abbrev pub OrdersLocksOf : List ℕ → ℕ → LockOrderValue → LockOrderValue → VerdictValue → ℕ → Type 0
OrdersLocksOf bytes driver = TellsOfSet bytes (OrdersLocks bytes driver) order_value

-- how large the set is
abbrev pub TellsShape : List ℕ → SetValue → SetValue → VerdictValue → ℕ → Type 0
TellsShape bytes = TellsOfSet bytes (IsShapeOf bytes) (λ s. s)

-- a device of it
abbrev pub TellsDevice : List ℕ → ℕ → DeviceValue → DeviceValue → VerdictValue → ℕ → Type 0
TellsDevice bytes device = TellsOfSet bytes (IsDeviceOf bytes device) (λ d. d)

-- a routine of a driver of it
abbrev pub TellsRoutine : List ℕ → ℕ → ℕ → RoutineValue → RoutineValue → VerdictValue → ℕ → Type 0
TellsRoutine bytes driver routine =
    TellsOfSet bytes (IsRoutineOf bytes driver routine) (λ r. r)
