-- What `check`, `explain`, `trace`, `list`, `rewrite` and `version` answer for the bytes of their
-- files.
use Rattle.std.specs.Prelude.{ℕ, ⊤, nat_eq, ◌≡◌, ◌+◌, ◌⊎◌, ◌++◌, Bool, true, false, if◌then◌else◌, List, [], ◌∷◌, codes, Result, Ok, Err}
use Rattle.std.specs.List.{list_any, starts_with}
use Rattle.asm.specs.declared.fault.AsmFault.{AsmFault}
use Rattle.asm.specs.Reading.{set_in}
use Rattle.asm_line.specs.Listing.{listing}
use Rattle.image.specs.declared.edition.Edition.TheVariants.{Current}
use Rattle.image.specs.declared.fault.ImageFault.{ImageFault}
use Rattle.image.specs.Reading.{IsFaultOf}
use Rattle.image.specs.Spelling.{Spells, spelling}
use Rattle.interleave.specs.declared.schedule.Schedule.{Schedule}
use Rattle.interleave.specs.declared.schedule.ScheduleFault.{ScheduleFault}
use Rattle.model.specs.declared.abs.Refusal.{Refusal}
use Rattle.model.specs.declared.abs.Rule.{Rule}
use Rattle.model.specs.declared.event.Event.{Event}
use Rattle.model.specs.declared.event.Reply.{Reply}
use Rattle.model.specs.declared.event.Reply.TheVariants.{Started, Stepped, Finished, Topped, Waited, Idle, Refused, Bug, Wrong}
use Rattle.model.specs.declared.set.Driver.{Driver}
use Rattle.model.specs.declared.set.Routine.{Routine}
use Rattle.model.specs.Certificate.{certificate_of}
use Rattle.model.specs.History.{replies_from}
use Rattle.model.specs.Run.{Run, begun}
use Rattle.model.specs.Set.{Set}
use Rattle.model.specs.Sound.{IsSound}
use Rattle.model.specs.Typable.{IsTypable, IsFirstFault}
use Rattle.model.specs.Words.{rule_text}
use Rattle.report.specs.Fault.{image_fault_line, schedule_fault_line, text_fault_line, unopened_line}
use Rattle.report.specs.Reply.{reply_line}
use Rattle.report.specs.Verdict.{accepted_line, certificate_line, refusal_line}
use Rattle.drvhost_devices.specs.declared.fault.End.{End}
use Rattle.drvhost_devices.specs.declared.fault.End.TheVariants.{Complete, Stopped}
use Rattle.drvhost_devices.specs.declared.verification.Verification.{Verification}
use Rattle.drvhost_devices.specs.declared.verification.Verification.TheVariants.{Required, Skipped}

-- an answer: the exit status, the standard output and the error output
pub record Answer : Type 0 where
  pub status : ℕ
  pub output : List ℕ
  pub told : List ℕ

-- the exit status for how a job ended
abbrev pub end_status : End → ℕ
end_status Complete = 0
end_status Stopped = 1

-- a job that met no fault ended so, with this text
abbrev pub ended : End → List ℕ → Answer
ended end text = record { status = end_status end; output = text; told = [] }

-- an input is faulty, and this line tells it
abbrev pub faulty : List ℕ → Answer
faulty line = record { status = 2; output = []; told = line }

-- a file that can't be opened is told by its name
abbrev pub IsUnopened : List ℕ → Answer → Type 0
IsUnopened name answer = answer ≡ faulty (unopened_line name)

-- a line for each routine of a driver, the first of which has this number
abbrev pub routine_lines : Set → ℕ → ℕ → List Routine → List ℕ
routine_lines set driver number [] = []
routine_lines set driver number (routine ∷ routines) =
    certificate_line driver number routine.sort (certificate_of set driver number)
    ++ routine_lines set driver (number + 1) routines

-- a line for each routine of drivers, the first of which has this number
abbrev pub driver_lines : Set → ℕ → List Driver → List ℕ
driver_lines set number [] = []
driver_lines set number (driver ∷ drivers) =
    routine_lines set number 0 driver.routines ++ driver_lines set (number + 1) drivers

-- an accepted set: that, and the certificates of its routines
abbrev pub acceptance : Set → List ℕ
acceptance set = accepted_line ++ driver_lines set 0 set.drivers

-- a refused set: its first fault
pub record IsRefused (set : Set) (answer : Answer) : Type 0 where
  pub refusal : Refusal
  pub first : IsFirstFault set refusal
  pub is : answer ≡ ended Stopped (refusal_line refusal)

-- the verdict on a set
abbrev pub IsVerdict : Set → Answer → Type 0
IsVerdict set answer =
    (IsTypable set × (answer ≡ ended Complete (acceptance set))) ⊎ IsRefused set answer

-- a reply with which a trace ends: a bug check, or a wrong operand
abbrev pub is_last : Reply → Bool
is_last (Bug bug) = true
is_last (Wrong place) = true
is_last (Started packet) = false
is_last Stepped = false
is_last Finished = false
is_last (Topped packet status info) = false
is_last Waited = false
is_last Idle = false
is_last Refused = false

-- replies up to and with the last one: behind it nothing is told
abbrev pub up_to_last : List Reply → List Reply
up_to_last [] = []
up_to_last (reply ∷ rest) = reply ∷ (if is_last reply then [] else up_to_last rest)

-- those of a run to events
abbrev pub shown_replies : Set → Run → List Event → List Reply
shown_replies set r events = up_to_last (replies_from set r events)

-- a line for each reply, the first of which has this number
abbrev pub reply_lines : ℕ → List Reply → List ℕ
reply_lines number [] = []
reply_lines number (reply ∷ rest) = reply_line number reply ++ reply_lines (number + 1) rest

-- the trace that these replies make: stopped, if one of them is the last
abbrev pub trace_of : List Reply → Answer
trace_of all = ended (if list_any is_last all then Stopped else Complete) (reply_lines 0 all)

-- the trace of a set by a schedule, or the fault of the schedule
abbrev pub ran : Set → Result Schedule ScheduleFault → Answer
ran set (Ok schedule) = trace_of (shown_replies set (begun set schedule.threads) schedule.events)
ran set (Err fault) = faulty (schedule_fault_line fault)

-- a file that begins with the letters of an image is one, any other a text
abbrev pub is_image : List ℕ → Bool
is_image bytes = starts_with nat_eq bytes (0x44 ∷ 0x56 ∷ 0x42 ∷ [])

-- the set that a text names, or the line that tells its first fault
abbrev pub TextSays : List ℕ → Result Set (List ℕ) → Type 0
TextSays text (Ok set) = set_in text ≡ Ok set
TextSays text (Err line) =
    (fault : AsmFault) × (set_in text ≡ Err fault) × (line ≡ text_fault_line fault)

-- the set that an image spells, or the line that tells its first fault
abbrev pub ImageSays : List ℕ → Result Set (List ℕ) → Type 0
ImageSays bytes (Ok set) = IsSound set × Spells bytes set
ImageSays bytes (Err line) =
    (fault : ImageFault) × IsFaultOf bytes fault × (line ≡ image_fault_line fault)

-- the same of the bytes of a file, an image's or a text's
abbrev pub SaysAs : Bool → List ℕ → Result Set (List ℕ) → Type 0
SaysAs true bytes said = ImageSays bytes said
SaysAs false bytes said = TextSays bytes said

abbrev pub FileSays : List ℕ → Result Set (List ℕ) → Type 0
FileSays bytes said = SaysAs (is_image bytes) bytes said

-- what is right for what a file says, where these are the right answers for a set: for the set that
-- it names, or the line that tells its first fault
abbrev pub IsOfSaid : (Set → Answer → Type 0) → Result Set (List ℕ) → Answer → Type 0
IsOfSaid Right (Ok set) answer = Right set answer
IsOfSaid Right (Err line) answer = answer ≡ faulty line

-- what is right for the bytes of a file, likewise
abbrev pub IsOfFile : (Set → Answer → Type 0) → List ℕ → Answer → Type 0
IsOfFile Right bytes answer =
    (said : Result Set (List ℕ)) × FileSays bytes said × IsOfSaid Right said answer

-- a set that has to be accepted, and isn't, is not run, where these are the answers of a run
abbrev pub IsIfAccepted : (Set → Answer → Type 0) → Set → Answer → Type 0
IsIfAccepted IsRun set answer = (IsTypable set × IsRun set answer) ⊎ IsRefused set answer

abbrev pub IsTraced : Verification → (Set → Answer → Type 0) → Set → Answer → Type 0
IsTraced Required IsRun set answer = IsIfAccepted IsRun set answer
IsTraced Skipped IsRun set answer = IsRun set answer

-- a set is run: it needn't be accepted, or is
abbrev pub IsToRun : Verification → Set → Type 0
IsToRun Required set = IsTypable set
IsToRun Skipped set = ⊤

-- the listing of a set
abbrev pub IsListing : Set → Answer → Type 0
IsListing set answer = answer ≡ ended Complete (listing set)

-- the image of a set, in the second edition
abbrev pub IsRewritten : Set → Answer → Type 0
IsRewritten set answer = IsSound set × (answer ≡ ended Complete (spelling Current set))

-- the program's name and its version
abbrev pub IsVersion : Answer → Type 0
IsVersion answer = answer ≡ ended Complete (codes "drvhost 1.0.0\n")

-- a rule explained: its number and its name, with some words behind them
pub record IsRuleExplained (rule : Rule) (answer : Answer) : Type 0 where
  pub words : List ℕ
  pub is : answer ≡ ended Complete (rule_text rule ++ words)

-- what `check` answers for the bytes of its file
abbrev pub IsCheck : List ℕ → Answer → Type 0
IsCheck set answer = IsOfFile IsVerdict set answer

-- what `rewrite` answers for the bytes of its file
abbrev pub IsRewrite : List ℕ → Answer → Type 0
IsRewrite set answer = IsOfFile IsRewritten set answer
