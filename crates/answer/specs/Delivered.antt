-- What is right for a file that was read.
use Rattle.std.specs.Prelude.{ℕ, ◌≡◌, List}
use Rattle.std.specs.Borrow.{Bor}
use Rattle.drvhost_devices.specs.Answer.{Answer}
use Rattle.drvhost_devices.specs.Device.{Holds, Supply}
use Rattle.answer.specs.declared.content.Content.TheVariants.{Whole}
use Rattle.answer.specs.declared.job.Job as job

-- the right answers of a job alone for the file of a name that has these bytes
abbrev pub IsAnswerTo : {J : Type 0} → job.Ghosts J → J → List ℕ → List ℕ → Answer → Type 0
IsAnswerTo its it name bytes answer =
    (called held : Bor (List ℕ)) × (called.now ≡ name) × (held.now ≡ bytes)
    × its.right it (record { name = called; content = Whole held }) answer

-- and for one that has this to give
abbrev pub IsAnswerFor : {J : Type 0} → job.Ghosts J → J → List ℕ → Supply → Answer → Type 0
IsAnswerFor its it name supply answer =
    (bytes : List ℕ) × Holds supply bytes × IsAnswerTo its it name bytes answer
