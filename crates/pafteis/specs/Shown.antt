-- What the exported functions about a run for people answer.
use Rattle.std.specs.Prelude.{ℕ, ◌/◌, ◌%◌, List, nat_eq, if◌then◌else◌, Option, None, Some}
use Rattle.drvhost_devices.specs.declared.verification.Verification.{Verification}
use Rattle.drvhost_devices.specs.declared.verification.Verification.TheVariants.{Required, Skipped}
use Rattle.drvhost_devices.specs.Device.{Bytes}
use Rattle.drvhost_devices.specs.declared.figure.Figure.TheVariants.{Picture}
use Rattle.drvhost_devices.specs.declared.manner.Detail.{Detail}
use Rattle.drvhost_devices.specs.declared.manner.Detail.TheVariants.{Every, Usual, Quiet}
use Rattle.drvhost_devices.specs.declared.manner.Strictness.{Strictness}
use Rattle.drvhost_devices.specs.declared.manner.Strictness.TheVariants.{Lenient, Strict}
use Rattle.answer_views.specs.declared.tell.Telling.{Telling}
use Rattle.answer_views.specs.Told.{IsDrawOf, IsTellOf}
use Rattle.pafteis.specs.Called.{AnswersIf, verification_named}

-- of which events a line is told, and whether one that was refused counts as a stop, by number
abbrev pub detail_named : ℕ → Option Detail
detail_named n =
    if nat_eq n 0 then Some Usual
    else if nat_eq n 1 then Some Quiet
    else if nat_eq n 2 then Some Every
    else None

abbrev pub strictness_named : ℕ → Option Strictness
strictness_named n = if nat_eq n 0 then Some Lenient else if nat_eq n 1 then Some Strict else None

abbrev pub told_by : Verification → Option Detail → Option Strictness → Option Telling
told_by verification (Some detail) (Some strictness) =
    Some (record {
      verification = verification;
      manner = record { detail = detail; strictness = strictness };
    })
told_by verification None strictness = None
told_by verification (Some detail) None = None

-- how a run is told, by the sum of its flags
abbrev pub telling_named : ℕ → Option Telling
telling_named flags =
    told_by (if nat_eq (flags % 2) 0 then Required else Skipped) (detail_named (flags / 2 % 4))
    (strictness_named (flags / 8))

abbrev pub Tells : ℕ → List ℕ → List ℕ → List ℕ → List ℕ → ℕ → ℕ → Type 0
Tells flags set schedule before after needed status =
    AnswersIf (λ t. IsTellOf t.verification t.manner (Bytes set) (Bytes schedule))
    (telling_named flags) before after needed status

abbrev pub Draws : ℕ → List ℕ → List ℕ → List ℕ → List ℕ → ℕ → ℕ → Type 0
Draws flags set schedule before after needed status =
    AnswersIf (λ v. IsDrawOf v Picture (Bytes set) (Bytes schedule)) (verification_named flags) before
    after needed status
