-- How a job goes whose answer tells of a ring where its parts do, and how it ends.
use Rattle.std.proofs.Common.{◌≡◌, ◌∙◌, List, [], ◌++◌, ℕ, Option, Result, Ok, Err, refl, subst, sym}
use Rattle.std.proofs.lemmas.List.{append-nil}
use Rattle.std.specs.Io.KnownBytes.{Appends}
use Rattle.drvhost_devices.specs.declared.fault.End.{End}
use Rattle.drvhost_devices.specs.declared.fault.Fault.{Fault}
use Rattle.drvhost_devices.specs.declared.fault.Fault.TheVariants.{Write}
use Rattle.drvhost_devices.specs.Answer.{Answer}
use Rattle.drvhost_devices.specs.Device.{TakesBeginning}
use Rattle.drvhost_devices.specs.Ends.{Ends, Rightly}
use Rattle.drvhost_devices.specs.Fault.{Goes, reads_failed, status_of, writes_failed}
use Rattle.drvhost_devices.proofs.Doing.{ends_of, goes_rightly}
use Rattle.drvhost_devices.proofs.Writing.{adds_all, adds_breaks}
use Rattle.answer_runs.specs.Hosting.{GoesTold, ended_with, told_behind}

-- where more answers are right
pub told_rightly : (R Q : Answer → Type 0) (words : List ℕ) (b n : Option (List ℕ))
    (g l : List ℕ) (end : Result End Fault) → ((answer : Answer) → R answer → Q answer)
    → GoesTold R words b n g l end → GoesTold Q words b n g l end
told_rightly R Q words b n g l (Ok end) on h = (h.0, on (ended_with end h.0 words) h.1, h.2)
told_rightly R Q words b n g l (Err fault) on h = goes_rightly R Q b n g l (Err fault) on h

-- where nothing is told
pub told_nothing : (R : Answer → Type 0) (words : List ℕ) (b n : Option (List ℕ)) (g l : List ℕ)
    (end : Result End Fault) → words ≡ [] → Goes R b n g l end → GoesTold R words b n g l end
told_nothing R words b n g l (Ok end) none h =
    let P : List ℕ → Type 0 = λ told. R (ended_with end h.0 told) in
    (h.0, subst P (sym none) h.1, h.2)
told_nothing R words b n g l (Err fault) none h = h

-- where the lines that gathered are written, or a beginning of them
pub told_written : (R : Answer → Type 0) (words : List ℕ) (b m n : Option (List ℕ)) (l : List ℕ)
    (end : End) → GoesTold R words b m [] l (Ok end) → Appends m n l
    → GoesTold R words b n [] [] (Ok end)
told_written R words b m n l end h p = (h.0, h.1, adds_all b m n [] l h.0 h.2 p)

pub told_broken : (R : Answer → Type 0) (words : List ℕ) (b m n : Option (List ℕ)) (l : List ℕ)
    (end : End) → GoesTold R words b m [] l (Ok end) → TakesBeginning m n l
    → Goes R b n [] [] (Err Write)
told_broken R words b m n l end h p =
    let broken : TakesBeginning b n (h.0 ++ []) = adds_breaks b m n [] l h.0 [] h.2 p in
    let P : List ℕ → Type 0 = TakesBeginning b n in
    (ended_with end h.0 words, h.1, subst P (append-nil h.0) broken)

-- how a command ends
pub told_ends : (R : Answer → Type 0) (words : List ℕ) (b n : Option (List ℕ))
    (end : Result End Fault) → GoesTold R words b n [] [] end
    → Ends R (reads_failed end) (writes_failed end) b n (status_of end) (told_behind words end)
told_ends R words b n (Ok end) h =
    let all : h.0 ≡ h.2.written = h.2.whole ∙ append-nil h.2.written in
    let P : List ℕ → Type 0 = Appends b n in
    Rightly (ended_with end h.0 words) h.1 refl refl refl refl
    (subst P (sym all) h.2.appended)
told_ends R words b n (Err fault) h = ends_of R b n (Err fault) h
