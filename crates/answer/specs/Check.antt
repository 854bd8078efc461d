-- What `check` answers in JSON: a line for the verdict, or for the fault of the file.
use Rattle.std.specs.Prelude.{ℕ, ◌≡◌, ◌+◌, ◌⊎◌, List, [], ◌∷◌, map, Some, None, String, string_bytes}
use Rattle.std.specs.Global.{Global}
use Rattle.std.specs.Str.Lossy.{utf8_lossy}
use Rattle.model.specs.declared.abs.Refusal.{Refusal}
use Rattle.model.specs.declared.set.Driver.{Driver}
use Rattle.model.specs.declared.set.Routine.{Routine}
use Rattle.model.specs.Certificate.{certificate_of}
use Rattle.model.specs.Set.{Set}
use Rattle.model.specs.Typable.{IsFirstFault, IsTypable}
use Rattle.report_json.specs.declared.verdict.CertifiedRoutine.{CertifiedRoutine}
use Rattle.report_json.specs.Verdict.{acceptance_json, refusal_json}
use Rattle.drvhost_devices.specs.declared.fault.End.TheVariants.{Complete, Stopped}
use Rattle.drvhost_devices.specs.Answer.{Answer}
use Rattle.drvhost_devices.specs.Device.{Supply}
use Rattle.answer.specs.Names.{routine_names}
use Rattle.answer.specs.Told.{IsToldOf, ended_line}

-- the routines of a driver with their certificates, the first of which has this number, before those
-- of later drivers
abbrev pub certified_before : Set → ℕ → ℕ → List Routine → List CertifiedRoutine
    → List CertifiedRoutine
certified_before set driver number [] later = later
certified_before set driver number (routine ∷ routines) later =
    record {
      driver = driver;
      routine = number;
      name = None;
      sort = routine.sort;
      certificate = certificate_of set driver number;
    }
    ∷ certified_before set driver (number + 1) routines later

-- those of drivers, the first of which has this number
abbrev pub certified_from : Set → ℕ → List Driver → List CertifiedRoutine
certified_from set number [] = []
certified_from set number (driver ∷ drivers) =
    certified_before set number 0 driver.routines (certified_from set (number + 1) drivers)

-- the routines of a set, by driver and then by number, each with its sort and its certificate
abbrev pub certified_routines : Set → List CertifiedRoutine
certified_routines set = certified_from set 0 set.drivers

-- routines that have these names, the first the first of them; the others have none
abbrev pub with_names : List CertifiedRoutine → List (String Global) → List CertifiedRoutine
with_names [] names = []
with_names (routine ∷ routines) [] = routine ∷ with_names routines []
with_names (routine ∷ routines) (name ∷ names) =
    record routine { name = Some name } ∷ with_names routines names

-- an accepted set: its routines, with the names that the bytes of its file give them (a name is
-- ASCII, so nothing is lost of it)
pub record IsAcceptanceJson (name bytes : List ℕ) (set : Set) (answer : Answer) : Type 0 where
  pub typable : IsTypable set
  pub names : List (String Global)
  pub named : map string_bytes names ≡ map utf8_lossy (routine_names bytes)
  pub is : answer
      ≡ ended_line Complete (acceptance_json name (with_names (certified_routines set) names))

-- a refused set: its first fault
pub record IsRefusalJson (name : List ℕ) (set : Set) (answer : Answer) : Type 0 where
  pub refusal : Refusal
  pub first : IsFirstFault set refusal
  pub is : answer ≡ ended_line Stopped (refusal_json name refusal)

-- the verdict on the set that these bytes of the file of a name are
abbrev pub IsVerdictJson : List ℕ → List ℕ → Set → Answer → Type 0
IsVerdictJson name bytes set answer =
    IsAcceptanceJson name bytes set answer ⊎ IsRefusalJson name set answer

-- what `check` answers for what the source has that is the file of a name
abbrev pub IsCheckJsonOf : List ℕ → Supply → Answer → Type 0
IsCheckJsonOf name supply answer = IsToldOf (IsVerdictJson name) name supply answer
