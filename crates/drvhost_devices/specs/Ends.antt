-- How a command ends, for what its devices hold.
use Rattle.std.specs.Prelude.{ℕ, ◌≡◌, ◌+◌, ◌⊎◌, List, codes, Ok, Option}
use Rattle.std.specs.Io.KnownBytes.{Appends, Keeps}
use Rattle.drvhost_devices.specs.declared.device.Sink as sink
use Rattle.drvhost_devices.specs.declared.fault.End.TheVariants.{Complete}
use Rattle.drvhost_devices.specs.declared.verification.Verification.{Verification}
use Rattle.interleave.specs.Listing.{schedule_in}
use Rattle.model.specs.Set.{Set}
use Rattle.drvhost_devices.specs.Answer.{Answer, FileSays, IsListing, IsOfFile, IsRewritten, IsToRun, IsTraced, IsVerdict, ended, ran}
use Rattle.drvhost_devices.specs.Device.{Bytes, Holds, Says, Supply, TakesBeginning}

-- what is right for the set that a source has, where these are the right answers for a set
abbrev pub IsOfSupply : (Set → Answer → Type 0) → Supply → Answer → Type 0
IsOfSupply Right supply answer =
    (bytes : List ℕ) × Holds supply bytes × IsOfFile Right bytes answer

-- what `check` answers for what its source has
abbrev pub IsCheckOf : Supply → Answer → Type 0
IsCheckOf supply answer = IsOfSupply IsVerdict supply answer

-- what `list` answers for what its source has
abbrev pub IsListOf : Supply → Answer → Type 0
IsListOf supply answer = IsOfSupply IsListing supply answer

-- what `rewrite` answers for what its source has
abbrev pub IsRewriteOf : Supply → Answer → Type 0
IsRewriteOf supply answer = IsOfSupply IsRewritten supply answer

-- what a run of a set by the schedule that a source has answers
abbrev pub IsRunOf : Supply → Set → Answer → Type 0
IsRunOf supply set answer =
    (schedule : List ℕ) × Holds supply schedule × (answer ≡ ran set (schedule_in schedule))

-- what `trace` answers for what its sources have: it reads the schedule's for a run alone
abbrev pub IsTraceOf : Verification → Supply → Supply → Answer → Type 0
IsTraceOf verification supply schedule answer =
    IsOfSupply (IsTraced verification (IsRunOf schedule)) supply answer

-- what `trace` answers for the bytes of its files
abbrev pub IsTrace : Verification → List ℕ → List ℕ → Answer → Type 0
IsTrace verification set schedule answer =
    IsTraceOf verification (Bytes set) (Bytes schedule) answer

-- a source has such a set
abbrev pub HoldsSet : (Set → Type 0) → Supply → Type 0
HoldsSet Such supply =
    (bytes : List ℕ) × Holds supply bytes × ((set : Set) × FileSays bytes (Ok set) × Such set)

-- a source has a set that `trace` runs, or that is accepted
abbrev pub HoldsRun : Verification → Supply → Type 0
HoldsRun verification supply = HoldsSet (IsToRun verification) supply

-- a sink has taken the image of the set that a source has, or a beginning of it where a write failed
pub record TakesImage (supply : Supply) (before after : Option (List ℕ)) (status : ℕ) : Type 0 where
  pub image : List ℕ
  pub right : IsRewriteOf supply (ended Complete image)
  pub taken : ((status ≡ 0) × Appends before after image)
      ⊎ ((status ≡ 2) × TakesBeginning before after image)

-- how a command ends, where these answers are right: by its exit status, what it tells, what went
-- out, and how many reads and writes failed
pub data Ends (Right : Answer → Type 0) (reads writes : ℕ) (before after : Option (List ℕ))
    (status : ℕ) (told : List ℕ) : Type 0 where
  Rightly : (answer : Answer) → Right answer → reads ≡ 0 → writes ≡ 0
      → status ≡ answer.status → told ≡ answer.told → Appends before after answer.output
      → Ends Right reads writes before after status told
  ReadFailed : reads ≡ 1 → writes ≡ 0 → status ≡ 2 → told ≡ codes "read failed\n"
      → Keeps before after
      → Ends Right reads writes before after status told
  WriteFailed : (answer : Answer) → Right answer → reads ≡ 0 → writes ≡ 1
      → status ≡ 2 → told ≡ codes "write failed\n" → TakesBeginning before after answer.output
      → Ends Right reads writes before after status told
  OutOfMemory : reads ≡ 0 → writes ≡ 0 → status ≡ 3 → told ≡ codes "out of memory\n"
      → Keeps before after
      → Ends Right reads writes before after status told

-- a command answers, where these answers are right: its devices' counts of failures before and
-- after, what its output held before and after, what it may have told, and its exit status
pub record Answers (Right : Answer → Type 0)
    (reads_before reads_after writes_before writes_after : ℕ) (before after : Option (List ℕ))
    (Tells : List ℕ → Type 0) (status : ℕ) : Type 0 where
  pub reads : ℕ
  pub writes : ℕ
  pub told : List ℕ
  pub reads_are : reads_after ≡ reads_before + reads
  pub writes_are : writes_after ≡ writes_before + writes
  pub tells : Tells told
  pub ends : Ends Right reads writes before after status told

-- a command answers, where these answers are right, and telling is done so: its sources' counts of
-- failed reads before and after, its sinks before and after, and its exit status
abbrev pub AnswersBy : {O E : Type 0} → sink.Ghosts O → sink.Ghosts E
    → (ℕ → ℕ → Option (List ℕ) → Option (List ℕ) → List ℕ → Type 0) → (Answer → Type 0)
    → ℕ → ℕ → O → O → E → E → ℕ → Type 0
AnswersBy {O} {E} output errors Tells Right reads_before reads_after out_before out_after
    err_before err_after status =
    Answers Right reads_before reads_after
    (output.failures out_before) (output.failures out_after)
    (output.contents out_before) (output.contents out_after)
    (Tells (errors.failures err_before) (errors.failures err_after)
    (errors.contents err_before) (errors.contents err_after))
    status

-- and where nothing else is told
abbrev pub AnswersOver : {O E : Type 0} → sink.Ghosts O → sink.Ghosts E → (Answer → Type 0)
    → ℕ → ℕ → O → O → E → E → ℕ → Type 0
AnswersOver {O} {E} output errors = AnswersBy output errors Says
