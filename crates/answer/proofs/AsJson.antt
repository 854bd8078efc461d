-- What a job on a set answers in JSON, for what a source has.
use Rattle.std.proofs.Common.{◌≡◌, ◌⊎◌, ℕ, List, inl, inr, subst, Ok, Err}
use Rattle.std.specs.Borrow.{Bor}
use Rattle.model.specs.Set.{Set}
use Rattle.report_json.specs.declared.fault.InputFault.{InputFault}
use Rattle.drvhost_devices.specs.Answer.{Answer, FileSays}
use Rattle.drvhost_devices.specs.Device.{Holds, Supply}
use Rattle.answer.specs.Told.{IsFaultIn, IsToldOf, IsToldOfFile, fault_answer}

-- what is answered for the bytes of the file of a name, where these are the right answers for a name,
-- bytes and the set that they name
abbrev pub IsJson : (List ℕ → List ℕ → Set → Answer → Type 0) → List ℕ → List ℕ → Answer → Type 0
IsJson Right name bytes answer =
    ((set : Set) × FileSays bytes (Ok set) × Right name bytes set answer)
    ⊎ ((fault : InputFault) × IsFaultIn bytes fault × (answer ≡ fault_answer name fault))

told_of_file : (Right : List ℕ → List ℕ → Set → Answer → Type 0) (name bytes : List ℕ)
    (answer : Answer) → IsJson Right name bytes answer
    → IsToldOfFile (Right name) name bytes answer
told_of_file Right name bytes answer (inl (set, says, right)) = (Ok set, says, right)
told_of_file Right name bytes answer (inr (fault, says, is)) = (Err fault, says, is)

-- for a file that was read
pub told_of_source : (Right : List ℕ → List ℕ → Set → Answer → Type 0) (name : List ℕ)
    (supply : Supply) (answer : Answer)
    → ((bytes : List ℕ) × Holds supply bytes
    × ((called held : Bor (List ℕ)) × (called.now ≡ name) × (held.now ≡ bytes)
    × IsJson Right called.now held.now answer))
    → IsToldOf (Right name) name supply answer
told_of_source Right name supply answer (bytes, holds, (called, held, one, same, right)) =
    let P : List ℕ → Type 0 = λ b. IsJson Right called.now b answer in
    let Q : List ℕ → Type 0 = λ n. IsJson Right n bytes answer in
    (bytes, holds, told_of_file Right name bytes answer (subst Q one (subst P same right)))
