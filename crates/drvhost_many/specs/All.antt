-- What is answered for several files.
use Rattle.std.specs.Prelude.{ℕ, ◌≡◌, ◌+◌, ◌*◌, ◌≤◌, ◌++◌, List, [], ◌∷◌, codes, if◌then◌else◌, length, map, nat_lt, Option, Result, Ok, Err, String, string_bytes}
use Rattle.std.specs.Borrow.{Bor}
use Rattle.std.specs.Global.{Global}
use Rattle.std.specs.Io.KnownBytes.{Appends, Keeps}
use Rattle.cli.specs.declared.job.Judging.{Judging}
use Rattle.drvhost_devices.specs.Answer.{Answer}
use Rattle.drvhost_devices.specs.Device.{Supply, TakesBeginning}
use Rattle.drvhost_devices.specs.Told.{joined}
use Rattle.drvhost_files.specs.declared.find.Found.{Found}
use Rattle.drvhost_many.specs.Marked.{marked, named_answer, noted}
use Rattle.drvhost_many.specs.declared.many.Halt.{Halt}
use Rattle.drvhost_many.specs.declared.many.Halt.TheVariants.{Memory, Write}
use Rattle.drvhost_many.specs.One.{IsOfOne, halt_status}

-- the names of the files that paths stand for, path by path, where each may stand for such a
-- finding: behind the files of each what can't be looked at
abbrev pub AreFound : {P : Type 0} → (P → Found → Type 0) → List P → List (String Global) → Type 0
AreFound Stands [] names = names ≡ []
AreFound Stands (path ∷ paths) names =
    (found : Found) × (others : List (String Global)) × Stands path found
    × AreFound Stands paths others
    × (names ≡ (found.files.items ++ found.unread.items) ++ others)

-- there is one path, and it alone is found for it
pub record IsAlone (paths : List (Bor (List ℕ))) (names : List (String Global)) (path : List ℕ)
    : Type 0 where
  pub one : map (λ given. given.now) paths ≡ path ∷ []
  pub itself : map string_bytes names ≡ path ∷ []

-- the answer for no file
abbrev pub nothing : Answer
nothing = record { status = 0; output = []; told = [] }

-- the answers for files, of which so many reads failed, in order, each told with its name
abbrev pub AreOf : Judging → (List ℕ → Supply) → List (String Global) → ℕ → Answer → Type 0
AreOf judging supply [] reads whole = (reads ≡ 0) × (whole ≡ nothing)
AreOf judging supply (name ∷ names) reads whole =
    (failed others : ℕ) × (answer rest : Answer)
    × IsOfOne judging (string_bytes name) (supply (string_bytes name)) failed answer
    × AreOf judging supply names others rest × (reads ≡ failed + others)
    × (whole ≡ joined (named_answer judging (string_bytes name) answer) rest)

-- how many files are in hand at once, where so many jobs share them
abbrev pub width_of : ℕ → ℕ
width_of jobs = if nat_lt jobs 2 then 1 else 256 * jobs

-- one of several files, with those before it, and their answers; of those behind it some may have
-- been opened, within so many, and some reads of these may have failed
pub record IsAt (judging : Judging) (width : ℕ) (supply : List ℕ → Supply)
    (names : List (String Global)) (opened : ℕ) (name : List ℕ) (reads : ℕ) (answer : Answer)
    : Type 0 where
  pub before : List (String Global)
  pub one : String Global
  pub behind : List (String Global)
  pub some : ℕ
  pub ahead : ℕ
  pub split : names ≡ before ++ one ∷ behind
  pub name_is : name ≡ string_bytes one
  pub answers : AreOf judging supply before some answer
  pub reads_are : reads ≡ some + ahead
  pub opened_some : length before + 1 + ahead ≤ opened
  pub opened_few : opened ≤ length before + width
  pub opened_most : opened ≤ length names

-- one of several files, with those before it, and their answers: these were opened, and no other
pub record IsNext (judging : Judging) (supply : List ℕ → Supply) (names : List (String Global))
    (opened : ℕ) (name : List ℕ) (reads : ℕ) (answer : Answer) : Type 0 where
  pub before : List (String Global)
  pub one : String Global
  pub behind : List (String Global)
  pub split : names ≡ before ++ one ∷ behind
  pub name_is : name ≡ string_bytes one
  pub answers : AreOf judging supply before reads answer
  pub opened_are : opened ≡ length before

-- how the judging of several files comes to its end, or is kept from it: by how many files were
-- opened, and reads and writes failed, what went out, the exit status, and what is told
pub data EachGoes (judging : Judging) (width : ℕ) (supply : List ℕ → Supply)
    (names : List (String Global)) (end : Result ℕ Halt) (opened reads writes : ℕ)
    (before after : Option (List ℕ)) (status : ℕ) (told : List ℕ) : Type 0 where
  -- all are answered
  Answered : (answer : Answer) → AreOf judging supply names reads answer → opened ≡ length names
      → writes ≡ 0 → end ≡ Ok status → status ≡ answer.status → told ≡ answer.told
      → Appends before after answer.output
      → EachGoes judging width supply names end opened reads writes before after status told
  -- the output of one of them couldn't be written
  WriteFailed : (name : List ℕ) (some one : ℕ) (first answer : Answer)
      → IsAt judging width supply names opened name some first
      → IsOfOne judging name (supply name) one answer
      → reads ≡ some + one → writes ≡ 1 → end ≡ Err Write → status ≡ 2
      → told ≡ first.told ++ codes "write failed\n"
      → TakesBeginning before after (first.output ++ marked judging name answer.output)
      → EachGoes judging width supply names end opened reads writes before after status told
  -- memory ran out for one of them
  OutOfMemory : (name : List ℕ) (some one : ℕ) (first : Answer)
      → IsAt judging width supply names opened name some first → reads ≡ some + one
      → writes ≡ 0 → end ≡ Err Memory → status ≡ 3
      → told ≡ first.told ++ noted judging name (codes "out of memory\n")
      → Appends before after first.output
      → EachGoes judging width supply names end opened reads writes before after status told
  -- memory ran out before the next of them was opened
  NoRoom : (name : List ℕ) (first : Answer) → IsNext judging supply names opened name reads first
      → writes ≡ 0 → end ≡ Err Memory → status ≡ 3
      → told ≡ first.told ++ noted judging name (codes "out of memory\n")
      → Appends before after first.output
      → EachGoes judging width supply names end opened reads writes before after status told

-- the exit status for that
abbrev pub end_status : Result ℕ Halt → ℕ
end_status (Ok status) = status
end_status (Err halt) = halt_status halt

-- how it ends
abbrev pub EachEnds : Judging → ℕ → (List ℕ → Supply) → List (String Global) → ℕ → ℕ → ℕ
    → Option (List ℕ) → Option (List ℕ) → ℕ → List ℕ → Type 0
EachEnds judging width supply names opened reads writes before after status told =
    (end : Result ℕ Halt)
    × EachGoes judging width supply names end opened reads writes before after status told

-- memory ran out before a file was opened
pub record IsUnfound (opened reads writes : ℕ) (before after : Option (List ℕ)) (status : ℕ)
    (told : List ℕ) : Type 0 where
  pub opened_are : opened ≡ 0
  pub reads_are : reads ≡ 0
  pub writes_are : writes ≡ 0
  pub status_is : status ≡ 3
  pub told_is : told ≡ codes "out of memory\n"
  pub keeps : Keeps before after

-- a command ends so: by its counts of opened files, failed reads and failed writes before and
-- after, what its output held before and after, what it may have told, and its exit status
pub record Counted
    (Ends : ℕ → ℕ → ℕ → Option (List ℕ) → Option (List ℕ) → ℕ → List ℕ → Type 0)
    (opened_before opened_after reads_before reads_after writes_before writes_after : ℕ)
    (before after : Option (List ℕ)) (Tells : List ℕ → Type 0) (status : ℕ) : Type 0 where
  pub opened : ℕ
  pub reads : ℕ
  pub writes : ℕ
  pub told : List ℕ
  pub opened_are : opened_after ≡ opened_before + opened
  pub reads_are : reads_after ≡ reads_before + reads
  pub writes_are : writes_after ≡ writes_before + writes
  pub tells : Tells told
  pub ends : Ends opened reads writes before after status told

-- how it goes where the sets of these files are judged, so many of them in hand at once
abbrev pub AnswersEach : Judging → ℕ → (List ℕ → Supply) → List (String Global) → ℕ → ℕ → ℕ → ℕ
    → ℕ → ℕ → Option (List ℕ) → Option (List ℕ) → (List ℕ → Type 0) → ℕ → Type 0
AnswersEach judging width supply names = Counted (EachEnds judging width supply names)
