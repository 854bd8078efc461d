-- What a run of the set of one file by another file answers in a form.
use Rattle.std.specs.Prelude.{ℕ, ⊤, ◌≡◌, ◌⊎◌, List, Ok}
use Rattle.model.specs.Set.{Set}
use Rattle.drvhost_devices.specs.declared.verification.Verification.{Verification}
use Rattle.drvhost_devices.specs.declared.verification.Verification.TheVariants.{Required, Skipped}
use Rattle.drvhost_devices.specs.Answer.{Answer, FileSays, IsToRun}
use Rattle.drvhost_devices.specs.Device.{Holds, Supply}
use Rattle.answer.specs.declared.form.Form as form
use Rattle.answer.specs.declared.run.Begun.{Begun}
use Rattle.answer.specs.declared.run.Begun.TheVariants.{Runs, Kept}
use Rattle.answer.specs.declared.run.Chosen.{Chosen}
use Rattle.answer.specs.declared.run.Chosen.TheVariants.{Accepted, Any}
use Rattle.answer.specs.Judged.{IsOfBytes, IsOfSet}

-- for the set that these bytes of the file of a name are, which has to be accepted or needn't be,
-- where these are the right answers for bytes and the set that they are, if it is run
abbrev pub IsOfChosen : {F : Type 0} → form.Ghosts F → F → List ℕ → Verification
    → (List ℕ → Set → Answer → Type 0) → List ℕ → Set → Answer → Type 0
IsOfChosen says it name Required Right bytes set answer =
    IsOfSet says it name Right bytes set answer
IsOfChosen says it name Skipped Right bytes set answer = Right bytes set answer

-- for bytes and the set that they are, where these are the right answers with the bytes of another
-- file, and that has this to give
abbrev pub IsByInput : (List ℕ → Set → List ℕ → Answer → Type 0) → Supply
    → List ℕ → Set → Answer → Type 0
IsByInput Right input bytes set answer =
    (given : List ℕ) × Holds input given × Right bytes set given answer

-- for the bytes of the file of a set, and what the other file has to give: it is read for a run
-- alone
abbrev pub IsRunOfBytes : {F : Type 0} → form.Ghosts F → F → List ℕ → Verification
    → (List ℕ → Set → List ℕ → Answer → Type 0) → List ℕ → Supply → Answer → Type 0
IsRunOfBytes says it name verification Right bytes input answer =
    IsOfBytes says it name (IsOfChosen says it name verification (IsByInput Right input)) bytes
    answer

-- for what both files have to give
abbrev pub IsRunOf : {F : Type 0} → form.Ghosts F → F → List ℕ → Verification
    → (List ℕ → Set → List ℕ → Answer → Type 0) → Supply → Supply → Answer → Type 0
IsRunOf says it name verification Right supply input answer =
    (bytes : List ℕ) × Holds supply bytes
    × IsRunOfBytes says it name verification Right bytes input answer

-- bytes are a set that is run
abbrev pub IsSetToRun : Verification → List ℕ → Type 0
IsSetToRun verification bytes = (set : Set) × FileSays bytes (Ok set) × IsToRun verification set

-- bytes keep a set from being run: this is the answer, whatever a run answers
abbrev pub IsKept : {F : Type 0} → form.Ghosts F → F → List ℕ → Verification → List ℕ → Answer
    → Type 0
IsKept says it name verification bytes answer =
    ((set : Set) × FileSays bytes (Ok set) × (verification ≡ Required)
    × says.is_refused it name bytes set answer)
    ⊎ says.is_faulty it name bytes answer

-- a set that is run, whichever it is
abbrev pub set_chosen : Chosen → Set
set_chosen (Accepted set) = set
set_chosen (Any set) = set

-- one that has to be accepted is
abbrev pub IsChosenAs : Verification → Chosen → Type 0
IsChosenAs Required (Accepted set) = ⊤
IsChosenAs Required (Any set) = ⊥
IsChosenAs Skipped chosen = ⊤

-- bytes were looked at: they are a set that is run, or keep it from that
abbrev pub IsBegun : {F : Type 0} → form.Ghosts F → F → List ℕ → Verification → List ℕ → Begun
    → Type 0
IsBegun says it name verification bytes (Runs chosen) =
    FileSays bytes (Ok (set_chosen chosen)) × IsToRun verification (set_chosen chosen)
    × IsChosenAs verification chosen
IsBegun says it name verification bytes (Kept answer) =
    IsKept says it name verification bytes answer
