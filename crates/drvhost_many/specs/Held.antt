-- What is answered for what was read of files.
use Rattle.std.specs.Prelude.{ℕ, ◌≡◌, ◌+◌, ◌++◌, List, [], ◌∷◌, codes, Option, Result, Ok, Err, String, string_bytes}
use Rattle.std.specs.Global.{Global}
use Rattle.std.specs.Io.KnownBytes.{Appends}
use Rattle.cli.specs.declared.job.Judging.{Judging}
use Rattle.drvhost_devices.specs.Answer.{Answer, faulty}
use Rattle.drvhost_devices.specs.Device.{Bytes, TakesBeginning}
use Rattle.drvhost_files.specs.declared.reading.Contents.{Contents}
use Rattle.drvhost_files.specs.declared.reading.Contents.TheVariants.{Whole, Unread, Unopened, Lacking}
use Rattle.drvhost_files.specs.declared.reading.Held.{Held}
use Rattle.drvhost_many.specs.declared.many.Halt.{Halt}
use Rattle.drvhost_many.specs.declared.many.Halt.TheVariants.{Memory, Write}
use Rattle.drvhost_devices.specs.Told.{joined}
use Rattle.drvhost_many.specs.All.{nothing}
use Rattle.drvhost_many.specs.Marked.{named_answer, noted}
use Rattle.drvhost_many.specs.One.{IsJudged, IsUnopenedIn, form_of}

-- what is answered for the file of a name of which this was read
abbrev pub IsAnswerTo : Judging → List ℕ → Contents → Answer → Type 0
IsAnswerTo judging name (Whole bytes) answer = IsJudged judging name (Bytes bytes.items) answer
IsAnswerTo judging name Unread answer = answer ≡ faulty (codes "read failed\n")
IsAnswerTo judging name Unopened answer = IsUnopenedIn (form_of judging) name answer
IsAnswerTo judging name Lacking answer = ⊥

-- the same, told with its name
abbrev pub IsToldOf : Judging → Held → Answer → Type 0
IsToldOf judging held told =
    (answer : Answer) × IsAnswerTo judging held.name.now held.contents answer
    × (told ≡ named_answer judging held.name.now answer)

-- what holds of each of several files and an answer for it, in order, with these answers as one
abbrev pub AreJoined : (Held → Answer → Type 0) → List Held → Answer → Type 0
AreJoined Is [] whole = whole ≡ nothing
AreJoined Is (held ∷ others) whole =
    (told rest : Answer) × Is held told × AreJoined Is others rest × (whole ≡ joined told rest)

-- what is told of several files, in order
abbrev pub AreToldOf : Judging → List Held → Answer → Type 0
AreToldOf judging files whole = AreJoined (IsToldOf judging) files whole

-- one of several files, and what is answered for those before it
pub record IsAmong (judging : Judging) (files : List Held) (one : Held) (first : Answer) : Type 0
  where
    pub before : List Held
    pub behind : List Held
    pub split : files ≡ before ++ one ∷ behind
    pub answers : AreToldOf judging before first

-- the answers for several files go to their writers; or the write of one fails, or there was no
-- memory for one
abbrev pub DeliversEach : Judging → List Held → ℕ → ℕ → Option (List ℕ) → Option (List ℕ)
    → (List ℕ → Type 0) → Result ℕ Halt → Type 0
DeliversEach judging files writes_before writes_after before after Tells (Ok status) =
    (whole : Answer) × AreToldOf judging files whole × (status ≡ whole.status)
    × (writes_after ≡ writes_before) × Appends before after whole.output × Tells whole.told
DeliversEach judging files writes_before writes_after before after Tells (Err Write) =
    (one : Held) × (first told : Answer) × IsAmong judging files one first
    × IsToldOf judging one told × (writes_after ≡ writes_before + 1)
    × TakesBeginning before after (first.output ++ told.output)
    × Tells (first.told ++ codes "write failed\n")
DeliversEach judging files writes_before writes_after before after Tells (Err Memory) =
    (one : Held) × (first : Answer) × IsAmong judging files one first
    × (writes_after ≡ writes_before) × Appends before after first.output
    × Tells (first.told ++ noted judging one.name.now (codes "out of memory\n"))

-- it is told that memory ran out for the first of some files
abbrev pub TellsLost : Judging → List (String Global) → (List ℕ → Type 0) → Type 0
TellsLost judging [] Tells = ⊥
TellsLost judging (name ∷ names) Tells =
    Tells (noted judging (string_bytes name) (codes "out of memory\n"))
