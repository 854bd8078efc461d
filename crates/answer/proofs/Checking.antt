-- What is judged and said in JSON is what `check` answers.
use Rattle.std.proofs.Common.{◌≡◌, ◌⊎◌, ℕ, List, inl, inr, subst, Ok, Err}
use Rattle.std.specs.Borrow.{Bor}
use Rattle.model.specs.Set.{Set}
use Rattle.model.specs.Typable.{IsTypable}
use Rattle.report_json.specs.declared.fault.InputFault.{InputFault}
use Rattle.drvhost_devices.specs.Answer.{Answer, FileSays}
use Rattle.drvhost_devices.specs.Device.{Holds, Supply}
use Rattle.answer.specs.Check.{IsAcceptanceJson, IsCheckJsonOf, IsRefusalJson, IsVerdictJson}
use Rattle.answer.specs.Told.{IsFaultIn, IsToldOfFile, fault_answer}

-- what is judged for the bytes of the file of a name
abbrev pub IsJudgedJson : List ℕ → List ℕ → Answer → Type 0
IsJudgedJson name bytes answer =
    ((set : Set) × FileSays bytes (Ok set)
    × ((IsTypable set × IsAcceptanceJson name bytes set answer) ⊎ IsRefusalJson name set answer))
    ⊎ ((fault : InputFault) × IsFaultIn bytes fault × (answer ≡ fault_answer name fault))

pub json_of : (name bytes : List ℕ) (answer : Answer) → IsJudgedJson name bytes answer
    → IsToldOfFile (IsVerdictJson name) name bytes answer
json_of name bytes answer (inl (set, says, inl (typable, is))) = (Ok set, says, inl is)
json_of name bytes answer (inl (set, says, inr is)) = (Ok set, says, inr is)
json_of name bytes answer (inr (fault, says, is)) = (Err fault, says, is)

-- for a file that was read
pub json_for : (name : List ℕ) (supply : Supply) (answer : Answer)
    → ((bytes : List ℕ) × Holds supply bytes
    × ((called held : Bor (List ℕ)) × (called.now ≡ name) × (held.now ≡ bytes)
    × IsJudgedJson called.now held.now answer))
    → IsCheckJsonOf name supply answer
json_for name supply answer (bytes, holds, (called, held, one, same, right)) =
    let P : List ℕ → Type 0 = λ b. IsJudgedJson called.now b answer in
    let Q : List ℕ → Type 0 = λ n. IsJudgedJson n bytes answer in
    (bytes, holds, json_of name bytes answer (subst Q one (subst P same right)))
