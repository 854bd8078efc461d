-- What a job on a set answers as text, for what a source has.
use Rattle.std.proofs.Common.{◌≡◌, ◌⊎◌, ℕ, List, inl, inr, subst, Ok, Err}
use Rattle.std.specs.Borrow.{Bor}
use Rattle.model.specs.Set.{Set}
use Rattle.drvhost_devices.specs.Answer.{Answer, FileSays, IsOfFile, faulty}
use Rattle.drvhost_devices.specs.Device.{Holds, Supply}

-- what is answered for bytes, where these are the right answers for bytes and the set that they name
abbrev pub IsText : (List ℕ → Set → Answer → Type 0) → List ℕ → Answer → Type 0
IsText Right bytes answer =
    ((set : Set) × FileSays bytes (Ok set) × Right bytes set answer)
    ⊎ ((line : List ℕ) × FileSays bytes (Err line) × (answer ≡ faulty line))

pub of_file : (Right : List ℕ → Set → Answer → Type 0) (bytes : List ℕ) (answer : Answer)
    → IsText Right bytes answer → IsOfFile (Right bytes) bytes answer
of_file Right bytes answer (inl (set, says, right)) = (Ok set, says, right)
of_file Right bytes answer (inr (line, says, is)) = (Err line, says, is)

-- a job on a file that was read answers for its bytes
pub read_for : (Right : List ℕ → Answer → Type 0) (name : List ℕ) (supply : Supply)
    (answer : Answer)
    → ((bytes : List ℕ) × Holds supply bytes
    × ((called held : Bor (List ℕ)) × (called.now ≡ name) × (held.now ≡ bytes)
    × Right held.now answer))
    → (bytes : List ℕ) × Holds supply bytes × Right bytes answer
read_for Right name supply answer (bytes, holds, (called, held, one, same, right)) =
    (bytes, holds, subst (λ (b : List ℕ). Right b answer) same right)

-- for a file that was read
pub of_source : (Right : List ℕ → Set → Answer → Type 0) (name : List ℕ) (supply : Supply)
    (answer : Answer)
    → ((bytes : List ℕ) × Holds supply bytes
    × ((called held : Bor (List ℕ)) × (called.now ≡ name) × (held.now ≡ bytes)
    × IsText Right held.now answer))
    → (bytes : List ℕ) × Holds supply bytes × IsOfFile (Right bytes) bytes answer
of_source Right name supply answer read =
    let is = read_for (IsText Right) name supply answer read in
    (is.0, is.1, of_file Right is.0 answer is.2)
