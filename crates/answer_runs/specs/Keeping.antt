-- What `host` answers that writes its history to a file besides, and what it writes there.
use Rattle.std.specs.Prelude.{ℕ, ◌≡◌, ◌⊎◌, Bool, true, false, List, codes, length, None, Option, Some, Ok}
use Rattle.std.specs.Io.KnownBytes.{Appends}
use Rattle.interleave.specs.Listing.{Lists}
use Rattle.interleave_texts.specs.Listed.{IsUnlisted}
use Rattle.interleave_texts.specs.Script.{script_in}
use Rattle.model.specs.declared.history.Command.{Command}
use Rattle.model.specs.declared.history.Entry.{Entry}
use Rattle.model.specs.History.{events_of}
use Rattle.model.specs.Set.{Set}
use Rattle.model.specs.Typable.{IsTypable}
use Rattle.workers_script.specs.declared.hosted.Hosted.{Hosted}
use Rattle.workers_script.specs.Told.{Hosts, all_told}
use Rattle.drvhost_devices.specs.declared.fault.End.{End}
use Rattle.drvhost_devices.specs.declared.fault.End.TheVariants.{Stopped}
use Rattle.drvhost_devices.specs.Answer.{Answer, end_status}
use Rattle.drvhost_devices.specs.Device.{Holds, Supply, TakesBeginning}
use Rattle.drvhost_devices.specs.Ends.{HoldsSet}
use Rattle.answer_runs.specs.Served.{IsUnhosted, TellsOfRing, ringed_after, served_as}

-- what is written where the schedule of a history, read back, is another one
abbrev pub unlisted_line : List ℕ
unlisted_line = codes "; the history, read back, is another one\n"

-- a history of so many threads as a text: a schedule of them and of the history's events; or that
-- line, where the text of that schedule, read back, is another one
abbrev pub IsHistory : ℕ → List Entry → Bool → List ℕ → Type 0
IsHistory threads history true text =
    Lists text (record { threads = threads; events = events_of history })
IsHistory threads history false text =
    (text ≡ unlisted_line)
    × IsUnlisted (record { threads = threads; events = events_of history })

-- how a job ends that writes such a text: not well with that line
abbrev pub listed_end : Bool → End → End
listed_end true end = end
listed_end false end = Stopped

-- and what it answers
abbrev pub listed_as : Bool → Answer → Answer
listed_as true answer = answer
listed_as false answer = record answer { status = end_status Stopped }

-- what is answered of the commands of a script that so many workers served on an accepted set, with
-- the text of their history: what `host` answers of this one
pub record IsServedWith (workers : ℕ) (set : Set) (commands : List Command) (text : List ℕ)
    (answer : Answer) : Type 0 where
  pub hosted : Hosted
  pub hosts : Hosts set workers commands hosted
  pub listed : Bool
  pub text_is : IsHistory workers hosted.core.history listed text
  pub words : List ℕ
  pub tells : TellsOfRing (ringed_after set workers hosted.core.history) words
  pub is : answer
      ≡ listed_as listed (served_as (all_told hosted.core.history (length commands))
      (length hosted.core.history) (ringed_after set workers hosted.core.history) words)

-- of the commands of the script that a source has
pub record IsServedFor (workers : ℕ) (script : Supply) (set : Set) (text : List ℕ) (answer : Answer)
    : Type 0 where
  pub bytes : List ℕ
  pub holds : Holds script bytes
  pub commands : List Command
  pub says : script_in bytes ≡ Ok commands
  pub right : IsServedWith workers set commands text answer

-- what is answered for what the sources have, where such a text is written, or none: then nothing is
-- served
abbrev pub IsKeptWith : ℕ → Supply → Supply → Option (List ℕ) → Answer → Type 0
IsKeptWith workers set script None answer = IsUnhosted set script answer
IsKeptWith workers set script (Some text) answer =
    HoldsSet (λ (s : Set). IsTypable s × IsServedFor workers script s text answer) set

abbrev pub IsKeptOf : ℕ → Supply → Supply → Answer → Type 0
IsKeptOf workers set script answer =
    (text : Option (List ℕ)) × IsKeptWith workers set script text answer

-- a sink was left as it was: by a fault, or with an answer with which no text is written
abbrev pub LeavesFor : (Answer → Type 0) → Option (List ℕ) → Option (List ℕ) → ℕ → Type 0
LeavesFor Right shown_before shown_after status =
    (status ≡ 2) ⊎ (status ≡ 3)
    ⊎ ((answer : Answer) × Right answer × (status ≡ answer.status)
    × Appends shown_before shown_after answer.output)

-- it has taken a text that goes with an answer that was shown before, or a beginning of it where a
-- write failed
pub record TakesWith (Right : List ℕ → Answer → Type 0)
    (shown_before shown_after before after : Option (List ℕ)) (status : ℕ) : Type 0 where
  pub answer : Answer
  pub text : List ℕ
  pub right : Right text answer
  pub shown : Appends shown_before shown_after answer.output
  pub taken : ((status ≡ answer.status) × Appends before after text)
      ⊎ ((status ≡ 2) × TakesBeginning before after text)

-- what becomes of a sink, where these answers are right with a text or with none: it is the same as
-- before, or has taken one
abbrev pub Touches : Type 0 → (Option (List ℕ) → Answer → Type 0) → Option (List ℕ)
    → Option (List ℕ) → Option (List ℕ) → Option (List ℕ) → ℕ → Type 0
Touches Same Right shown_before shown_after before after status =
    (Same × LeavesFor (Right None) shown_before shown_after status)
    ⊎ TakesWith (λ text. Right (Some text)) shown_before shown_after before after status

-- right answers on commands that were served, which go with a text
abbrev pub WithText : (List ℕ → Answer → Type 0) → Option (List ℕ) → Answer → Type 0
WithText Right None answer = ⊥
WithText Right (Some text) answer = Right text answer
