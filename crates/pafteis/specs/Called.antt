-- What the exported functions answer.
use Rattle.std.specs.Prelude.{ℕ, ◌≡◌, ◌⊎◌, List, length, nat_eq, if◌then◌else◌, Option, None, Some, Result, Ok, Err}
use Rattle.drvhost_devices.specs.declared.verification.Verification.{Verification}
use Rattle.drvhost_devices.specs.declared.verification.Verification.TheVariants.{Required, Skipped}
use Rattle.drvhost_devices.specs.Answer.{Answer, IsRuleExplained}
use Rattle.drvhost_devices.specs.Device.{Bytes}
use Rattle.drvhost_devices.specs.Ends.{IsTraceOf}
use Rattle.drvhost_devices.specs.declared.extent.Extent.{Extent}
use Rattle.drvhost_devices.specs.declared.extent.Extent.TheVariants.{First, Each}
use Rattle.answer_explain.specs.Explained.{IsExplainedOf}
use Rattle.model.specs.declared.memory.OutOfMemory.{OutOfMemory}
use Rattle.pafteis_parts.specs.Delivery.{bytes_of, placed}
use Rattle.pafteis_values.specs.declared.verdict.Verdict.{Verdict}
use Rattle.pafteis_values.specs.declared.verdict.VerdictValue.{VerdictValue}
use Rattle.pafteis_values.specs.Rule.{rule_named}
use Rattle.pafteis_values.specs.Verdict.{status_number, verdict_value}
use Rattle.pafteis_world.specs.Judged.{IsJudged}

-- the verdict on the bytes of a text or an image, as a status and a value
pub record IsCheckedAs (bytes : List ℕ) (value : VerdictValue) (status : ℕ) : Type 0 where
  pub verdict : Verdict
  pub judged : IsJudged bytes verdict
  pub told : value ≡ verdict_value verdict
  pub is : status ≡ status_number verdict

-- an answer was put into a buffer, where it has room there
pub record Delivers (answer : Answer) (before after : List ℕ) (needed status : ℕ) : Type 0 where
  pub is : status ≡ answer.status
  pub long : needed ≡ length (bytes_of answer)
  pub put : after ≡ placed (bytes_of answer) before

-- nothing was answered, for this status, and the buffer is as it was
pub record AnswersNothing (before after : List ℕ) (needed status why : ℕ) : Type 0 where
  pub is : status ≡ why
  pub none : needed ≡ 0
  pub same : after ≡ before

-- some bytes were put into a buffer, where it has room there, if there are any
abbrev pub PutsBytes : Option (List ℕ) → List ℕ → List ℕ → ℕ → ℕ → Type 0
PutsBytes None before after needed status = AnswersNothing before after needed status 4
PutsBytes (Some bytes) before after needed status =
    (status ≡ 0) × (needed ≡ length bytes) × (after ≡ placed bytes before)

-- what came of a call was put into a buffer
abbrev pub Puts : Result Answer OutOfMemory → List ℕ → List ℕ → ℕ → ℕ → Type 0
Puts (Ok answer) before after needed status = Delivers answer before after needed status
Puts (Err refused) before after needed status = AnswersNothing before after needed status 3

-- a right answer was put into a buffer, or memory ran out
abbrev pub Answers : (Answer → Type 0) → List ℕ → List ℕ → ℕ → ℕ → Type 0
Answers Right before after needed status =
    ((answer : Answer) × Right answer × Delivers answer before after needed status)
    ⊎ AnswersNothing before after needed status 3

-- the same where an argument may name nothing
abbrev pub AnswersIf : {A : Type 0} → (A → Answer → Type 0) → Option A → List ℕ → List ℕ → ℕ → ℕ
    → Type 0
AnswersIf Right None before after needed status = AnswersNothing before after needed status 4
AnswersIf Right (Some a) before after needed status = Answers (Right a) before after needed status

-- how much is explained, by its number: the first fault, or that of each routine
abbrev pub extent_named : ℕ → Option Extent
extent_named n = if nat_eq n 0 then Some First else if nat_eq n 1 then Some Each else None

abbrev pub ExplainsSet : ℕ → List ℕ → List ℕ → List ℕ → ℕ → ℕ → Type 0
ExplainsSet extent set before after needed status =
    AnswersIf (λ e. IsExplainedOf e (Bytes set)) (extent_named extent) before after needed status

abbrev pub ExplainsRule : ℕ → List ℕ → List ℕ → ℕ → ℕ → Type 0
ExplainsRule rule before after needed status =
    AnswersIf IsRuleExplained (rule_named rule) before after needed status

-- whether a set has to be accepted, by the flags
abbrev pub verification_named : ℕ → Option Verification
verification_named n =
    if nat_eq n 0 then Some Required else if nat_eq n 1 then Some Skipped else None

abbrev pub Traces : ℕ → List ℕ → List ℕ → List ℕ → List ℕ → ℕ → ℕ → Type 0
Traces flags set schedule before after needed status =
    AnswersIf (λ v. IsTraceOf v (Bytes set) (Bytes schedule)) (verification_named flags) before
    after needed status
