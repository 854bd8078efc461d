-- What is judged and said is what `explain` answers in JSON.
use Rattle.std.proofs.Common.{◌≡◌, ◌⊎◌, ℕ, List, inl, inr, Err, Ok}
use Rattle.model.specs.Set.{Set}
use Rattle.model.specs.Typable.{IsTypable}
use Rattle.report_json.specs.declared.fault.InputFault.{InputFault}
use Rattle.drvhost_devices.specs.declared.extent.Extent.{Extent}
use Rattle.drvhost_devices.specs.Answer.{Answer, FileSays}
use Rattle.answer.specs.Told.{IsFaultIn, IsToldOfFile, fault_answer}
use Rattle.answer_explain.specs.Explain.{IsAcceptanceExplained, IsExplainedJson, IsRefusalExplained}

-- what is judged for bytes of the file of a name
abbrev pub IsJudgedAs : Extent → List ℕ → List ℕ → Answer → Type 0
IsJudgedAs extent name bytes answer =
    ((set : Set) × FileSays bytes (Ok set)
    × ((IsTypable set × IsAcceptanceExplained name bytes set answer)
    ⊎ IsRefusalExplained extent name bytes set answer))
    ⊎ ((fault : InputFault) × IsFaultIn bytes fault × (answer ≡ fault_answer name fault))

pub explained_told : (extent : Extent) (name bytes : List ℕ) (answer : Answer)
    → IsJudgedAs extent name bytes answer
    → IsToldOfFile (IsExplainedJson extent name) name bytes answer
explained_told extent name bytes answer (inl (set, says, inl (typable, is))) =
    (Ok set, says, inl is)
explained_told extent name bytes answer (inl (set, says, inr is)) = (Ok set, says, inr is)
explained_told extent name bytes answer (inr (fault, says, is)) = (Err fault, says, is)
