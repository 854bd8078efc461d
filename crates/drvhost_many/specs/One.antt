-- What is answered for one of several files.
use Rattle.std.specs.Prelude.{ℕ, ◌≡◌, ◌≢◌, ◌+◌, ◌⊎◌, [], Bool, true, false, List, codes, Option, Result, Ok, Err}
use Rattle.std.specs.Io.KnownBytes.{Appends}
use Rattle.cli.specs.declared.job.Form.{Form}
use Rattle.cli.specs.declared.job.Form.TheVariants.{Lines, Json}
use Rattle.cli.specs.declared.job.Judging.{Judging}
use Rattle.cli.specs.declared.job.Judging.TheVariants.{Check, CheckJson, Explain, ExplainJson}
use Rattle.drvhost_devices.specs.Answer.{Answer, IsUnopened, faulty}
use Rattle.drvhost_devices.specs.Device.{Bytes, MayBeClosed, Supply, TakesBeginning}
use Rattle.drvhost_devices.specs.Ends.{IsCheckOf}
use Rattle.answer.specs.declared.content.Content.{Content}
use Rattle.answer.specs.declared.content.Content.TheVariants.{Whole, Unread, Unopened}
use Rattle.answer.specs.Check.{IsCheckJsonOf}
use Rattle.answer_explain.specs.Explain.{IsExplainJsonOf}
use Rattle.answer.specs.Told.{IsUnopenedJson}
use Rattle.answer_explain.specs.Explained.{IsFileExplained}
use Rattle.drvhost_many.specs.Painted.{IsShown}
use Rattle.drvhost_many.specs.declared.many.Halt.{Halt}
use Rattle.drvhost_many.specs.declared.many.Halt.TheVariants.{Memory, Write}

-- what is answered for a set that is judged, where its file has this name and this to give
abbrev pub IsJudged : Judging → List ℕ → Supply → Answer → Type 0
IsJudged Check name supply = IsCheckOf supply
IsJudged CheckJson name supply = IsCheckJsonOf name supply
IsJudged (Explain extent coloring) name supply =
    IsShown coloring (IsFileExplained extent name supply)
IsJudged (ExplainJson extent) name supply = IsExplainJsonOf extent name supply

-- the form of what is answered
abbrev pub form_of : Judging → Form
form_of Check = Lines
form_of CheckJson = Json
form_of (Explain extent coloring) = Lines
form_of (ExplainJson extent) = Json

-- what is answered in a form where the file of a name can't be opened
abbrev pub IsUnopenedIn : Form → List ℕ → Answer → Type 0
IsUnopenedIn Lines = IsUnopened
IsUnopenedIn Json = IsUnopenedJson

-- what is answered in a form for the file of a name, by what was read of it, where these are the
-- right answers for what it has to give
abbrev pub IsFrom : Form → (Supply → Answer → Type 0) → List ℕ → Content → Answer → Type 0
IsFrom form Right name (Whole bytes) answer = Right (Bytes bytes.now) answer
IsFrom form Right name Unread answer = answer ≡ faulty (codes "read failed\n")
IsFrom form Right name Unopened answer = IsUnopenedIn form name answer

-- what is answered for a set that is judged, by what was read of its file
abbrev pub IsJudgedFrom : Judging → List ℕ → Content → Answer → Type 0
IsJudgedFrom judging name = IsFrom (form_of judging) (IsJudged judging name) name

-- whether all that is answered is JSON
abbrev pub is_in_json : Judging → Bool
is_in_json Check = false
is_in_json CheckJson = true
is_in_json (Explain extent coloring) = false
is_in_json (ExplainJson extent) = true

-- then a file that can't be opened is told so too
abbrev pub IsUnopenedAs : Judging → List ℕ → Answer → Type 0
IsUnopenedAs Check name answer = ⊥
IsUnopenedAs CheckJson name answer = IsUnopenedJson name answer
IsUnopenedAs (Explain extent coloring) name answer = ⊥
IsUnopenedAs (ExplainJson extent) name answer = IsUnopenedJson name answer

abbrev pub IsJudgedFile : Judging → List ℕ → Supply → Answer → Type 0
IsJudgedFile judging name supply answer =
    IsJudged judging name supply answer ⊎ (MayBeClosed supply × IsUnopenedAs judging name answer)

-- what is answered for a file of which so many reads failed: what is right for what it has, or that
-- it can't be read
abbrev pub IsOfOne : Judging → List ℕ → Supply → ℕ → Answer → Type 0
IsOfOne judging name supply reads answer =
    ((reads ≡ 0) × IsJudgedFile judging name supply answer)
    ⊎ ((reads ≡ 1) × (answer ≡ faulty (codes "read failed\n")))

-- the exit status for what keeps from going on
abbrev pub halt_status : Halt → ℕ
halt_status Write = 2
halt_status Memory = 3

-- an answer goes to its writers, of which so many writes had failed before and have after; or the
-- write of its output fails, and that is told
abbrev pub Delivers : Answer → ℕ → ℕ → Option (List ℕ) → Option (List ℕ) → (List ℕ → Type 0)
    → Result ℕ Halt → Type 0
Delivers answer writes_before writes_after before after Tells (Ok status) =
    (status ≡ answer.status) × (writes_after ≡ writes_before) × Appends before after answer.output
    × Tells answer.told
Delivers answer writes_before writes_after before after Tells (Err Write) =
    (writes_after ≡ writes_before + 1) × TakesBeginning before after answer.output
    × Tells (codes "write failed\n")
Delivers answer writes_before writes_after before after Tells (Err Memory) = ⊥

-- the write of some bytes failed, and that was told
pub record IsLost (bytes : List ℕ) (writes_before writes_after : ℕ)
    (before after : Option (List ℕ)) (Tells : List ℕ → Type 0) : Type 0 where
  pub some : bytes ≢ []
  pub more : writes_after ≡ writes_before + 1
  pub taken : TakesBeginning before after bytes
  pub says : Tells (codes "write failed\n")
