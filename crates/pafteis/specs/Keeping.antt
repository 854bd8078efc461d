-- What the exported functions answer that keep an answer, or read it in pieces.
use Rattle.std.specs.Prelude.{ℕ, ◌≡◌, ◌⊎◌, List, Option, None, Some, Result, Ok, Err, false, length}
use Rattle.drvhost_devices.specs.Answer.{Answer}
use Rattle.model.specs.declared.memory.OutOfMemory.{OutOfMemory}
use Rattle.pafteis.specs.Driving.{IsTold, closed_status}
use Rattle.pafteis_parts.specs.Delivery.{bytes_of}
use Rattle.pafteis_world.specs.declared.kept.Kept.{Kept}
use Rattle.pafteis_world.specs.Keeping.{bytes_in, Reads}

-- the bytes of an answer are kept behind a handle: those that the call with a buffer puts there
pub record IsKept (answer : Answer) (after : Kept) (needed status : ℕ) : Type 0 where
  pub is : status ≡ answer.status
  pub long : needed ≡ length (bytes_of answer)
  pub kept : bytes_in after ≡ Some (bytes_of answer)

-- nothing was answered, for this status, and the handle is as it was
pub record KeepsNothing (before after : Kept) (needed status why : ℕ) : Type 0 where
  pub is : status ≡ why
  pub none : needed ≡ 0
  pub same : after ≡ before

-- what came of a call is kept, or memory ran out
abbrev pub KeepsTold : Result Answer OutOfMemory → Kept → Kept → ℕ → ℕ → Type 0
KeepsTold (Ok answer) before after needed status =
    IsKept answer after needed status ⊎ KeepsNothing before after needed status 3
KeepsTold (Err refused) before after needed status = KeepsNothing before after needed status 3

-- a right answer is kept, or memory ran out
abbrev pub KeepsRight : (Answer → Type 0) → Kept → Kept → ℕ → ℕ → Type 0
KeepsRight Right before after needed status =
    ((answer : Answer) × Right answer × IsKept answer after needed status)
    ⊎ KeepsNothing before after needed status 3

-- the same where an argument may name nothing
abbrev pub KeepsIf : {A : Type 0} → (A → Answer → Type 0) → Option A → Kept → Kept → ℕ → ℕ → Type 0
KeepsIf Right None before after needed status = KeepsNothing before after needed status 4
KeepsIf Right (Some a) before after needed status = KeepsRight (Right a) before after needed status

-- a piece of an answer was put into a buffer, and how many bytes it has is told
abbrev pub ReadsPiece : ℕ → Kept → Kept → List ℕ → List ℕ → ℕ → ℕ → ℕ → Type 0
ReadsPiece from before after old new counted count status =
    (read : Option ℕ) × Reads from before after old new read
    × IsTold (λ n. n) read counted count status

-- an answer was freed, if there was one
abbrev pub Frees : Kept → Kept → ℕ → Type 0
Frees before after status = (after.live ≡ false) × (status ≡ closed_status before.live)
