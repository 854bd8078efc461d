-- What the accepted set that bytes name has.
use Rattle.std.specs.Prelude.{ℕ, ◌≡◌, List, Option, Some}
use Rattle.model.specs.Set.{Set}
use Rattle.model.specs.Typable.{IsTypable}
use Rattle.pafteis_values.specs.declared.shape.DeviceValue.{DeviceValue}
use Rattle.pafteis_values.specs.declared.shape.RoutineValue.{RoutineValue}
use Rattle.pafteis_values.specs.declared.shape.SetValue.{SetValue}
use Rattle.pafteis_values.specs.Shape.{device_shown, routine_shown, set_value}
use Rattle.pafteis_world.specs.Judged.{Names}

-- this is what is told of an accepted set that bytes name
pub record IsToldOf {A : Type 0} (bytes : List ℕ) (tell : Set → Option A) (answer : Option A)
    : Type 0 where
  pub set : Set
  pub names : Names bytes set
  pub typable : IsTypable set
  pub tells : answer ≡ tell set

-- how large it is
abbrev pub IsShapeOf : List ℕ → Option SetValue → Type 0
IsShapeOf bytes = IsToldOf bytes (λ set. Some (set_value set))

-- a device of it, if it has one of this number
abbrev pub IsDeviceOf : List ℕ → ℕ → Option DeviceValue → Type 0
IsDeviceOf bytes number = IsToldOf bytes (λ set. device_shown set number)

-- a routine of a driver of it, with its certificate
abbrev pub IsRoutineOf : List ℕ → ℕ → ℕ → Option RoutineValue → Type 0
IsRoutineOf bytes driver number = IsToldOf bytes (λ set. routine_shown set driver number)
