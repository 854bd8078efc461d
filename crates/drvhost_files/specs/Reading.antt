-- What is read of files, each whole.
use Rattle.std.specs.Prelude.{ℕ, ⊤, ◌≡◌, ◌+◌, ◌≤◌, Bool, true, IfOk, List, if◌then◌else◌, length, String, string_bytes}
use Rattle.std.specs.Global.{Global}
use Rattle.std.specs.List.{AllZip, sum_by}
use Rattle.drvhost_devices.specs.Device.{Holds, MayBeClosed, Supply}
use Rattle.drvhost_files.specs.declared.reading.Contents.{Contents}
use Rattle.drvhost_files.specs.declared.reading.Contents.TheVariants.{Whole, Unread, Unopened, Lacking}
use Rattle.drvhost_files.specs.declared.reading.Answered.{Answered}
use Rattle.drvhost_files.specs.declared.reading.Held.{Held}

-- how many reads of a file failed
abbrev pub reads_of : Contents → ℕ
reads_of (Whole bytes) = 0
reads_of Unread = 1
reads_of Unopened = 0
reads_of Lacking = 0

abbrev pub held_reads : Held → ℕ
held_reads held = reads_of held.contents

-- what may be read of a file that has this to give: one that can't be opened isn't read where that
-- is told
abbrev pub IsReadOf : Bool → Supply → Contents → Type 0
IsReadOf is_told supply (Whole bytes) = Holds supply bytes.items
IsReadOf is_told supply Unread = ⊤
IsReadOf is_told supply Unopened = MayBeClosed supply × (is_told ≡ true)
IsReadOf is_told supply Lacking = ⊤

-- something is held of the file of a name
abbrev pub IsNamed : String Global → Held → Type 0
IsNamed name held = held.name.now ≡ string_bytes name

-- this was read of it
pub record IsHeld (is_told : Bool) (supply : List ℕ → Supply) (name : String Global) (held : Held)
    : Type 0 where
  pub name_is : IsNamed name held
  pub read : IsReadOf is_told (supply (string_bytes name)) held.contents

-- so it was for files, in order: by how many were opened, and how many reads of them failed
pub record AreHeld (is_told : Bool) (supply : List ℕ → Supply) (names : List (String Global))
    (opened reads : ℕ) (held : List Held) : Type 0 where
  pub are : AllZip (IsHeld is_told supply) names held
  pub opened_are : opened ≡ length names
  pub reads_are : reads ≡ sum_by held_reads held

-- how many reads failed, by whether one did
abbrev pub failed_reads : Bool → ℕ
failed_reads is_unread = if is_unread then 1 else 0

-- the file of a name is one that is answered
abbrev pub IsNamedSo : {A : Type 0} → String Global → Answered A → Type 0
IsNamedSo name one = one.name.now ≡ string_bytes name

-- this was answered for a file of which that was read, where there was memory for it
pub record IsAnswered {A : Type 0} (Answers : Held → A → Type 0) (held : Held) (one : Answered A)
    : Type 0 where
  pub name_is : one.name.now ≡ held.name.now
  pub reads_are : failed_reads one.is_unread ≡ held_reads held
  pub answers : IfOk one.answer (Answers held)

-- for what may be read of one that has this to give
pub record IsAnsweredBy {A : Type 0} (is_told : Bool) (supply : Supply)
    (Answers : Held → A → Type 0) (one : Answered A) : Type 0 where
  pub held : Held
  pub read : IsReadOf is_told supply held.contents
  pub answered : IsAnswered Answers held one

-- for the file of a name
pub record IsAnsweredFor {A : Type 0} (is_told : Bool) (supply : List ℕ → Supply)
    (Answers : Held → A → Type 0) (name : String Global) (one : Answered A) : Type 0 where
  pub held : Held
  pub is_held : IsHeld is_told supply name held
  pub answered : IsAnswered Answers held one

-- so it was for files, in order: by how many were opened, and how many reads of them failed
pub record AreAnswered {A : Type 0} (is_told : Bool) (supply : List ℕ → Supply)
    (Answers : Held → A → Type 0) (names : List (String Global)) (opened reads : ℕ)
    (answered : List (Answered A)) : Type 0 where
  pub held : List Held
  pub are_held : AreHeld is_told supply names opened reads held
  pub are : AllZip (IsAnswered Answers) held answered

-- some of so many files were opened, and some reads of them failed, by how many had before and
-- after; and with these counts something holds
pub record Opens (most opened_before opened_after reads_before reads_after : ℕ)
    (So : ℕ → ℕ → Type 0) : Type 0 where
  pub opened : ℕ
  pub reads : ℕ
  pub opened_are : opened_after ≡ opened_before + opened
  pub reads_are : reads_after ≡ reads_before + reads
  pub few : reads ≤ opened
  pub within : opened ≤ most
  pub so : So opened reads
