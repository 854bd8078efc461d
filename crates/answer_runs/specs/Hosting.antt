-- With how many workers a job is done whose answer tells of a ring, and how it goes.
use Rattle.std.specs.Prelude.{ℕ, ◌≡◌, ◌≤◌, List, [], Option, Result, Ok, Err}
use Rattle.model.specs.declared.limits.TheConstants.{MAX_THREADS}
use Rattle.drvhost_devices.specs.declared.fault.End.{End}
use Rattle.drvhost_devices.specs.declared.fault.Fault.{Fault}
use Rattle.drvhost_devices.specs.Answer.{Answer, end_status}
use Rattle.drvhost_devices.specs.Device.{Adds}
use Rattle.drvhost_devices.specs.Fault.{Goes, fault_told}
use Rattle.answer_runs.specs.declared.page.Page.{Page}

-- so many workers can serve: one at least, and as many as a world has threads at most
abbrev pub AreWorkers : ℕ → Type 0
AreWorkers count = (1 ≤ count) × (count ≤ MAX_THREADS)

-- nothing has gathered on a page
pub record IsBlank (page : Page) : Type 0 where
  pub lines : page.lines ≡ []
  pub ringed : page.ringed.items ≡ []
  pub words : page.words.items ≡ []

-- a job that met no fault ended so, with this text, and these words are told
abbrev pub ended_with : End → List ℕ → List ℕ → Answer
ended_with end text words = record { status = end_status end; output = text; told = words }

-- as a job goes otherwise, but where it has met no fault, these words are told
abbrev pub GoesTold : (Answer → Type 0) → List ℕ → Option (List ℕ) → Option (List ℕ) → List ℕ
    → List ℕ → Result End Fault → Type 0
GoesTold Right words before after gathered left (Ok end) =
    (text : List ℕ) × Right (ended_with end text words) × Adds before after gathered left text
GoesTold Right words before after gathered left (Err fault) =
    Goes Right before after gathered left (Err fault)

-- what is told of a job: these words where it met no fault, and else the fault
abbrev pub told_behind : List ℕ → Result End Fault → List ℕ
told_behind words (Ok end) = words
told_behind words (Err fault) = fault_told fault
