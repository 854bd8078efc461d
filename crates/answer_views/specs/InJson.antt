-- What `tell` answers in JSON: an object for each event of a run, with its number, its
-- circumstances and the reply to it, and one for the audit.
use Rattle.std.specs.Prelude.{ℕ, ◌≡◌, ◌+◌, ◌++◌, List, [], ◌∷◌, Result, Ok, Err, length}
use Rattle.std.specs.List.{list_any}
use Rattle.interleave.specs.declared.schedule.Schedule.{Schedule}
use Rattle.interleave.specs.declared.schedule.ScheduleFault.{ScheduleFault}
use Rattle.interleave.specs.Listing.{schedule_in}
use Rattle.model.specs.declared.event.Event.{Event}
use Rattle.model.specs.declared.event.Reply.{Reply}
use Rattle.model.specs.History.{replies}
use Rattle.model.specs.Run.{Run, run}
use Rattle.model.specs.Set.{Set}
use Rattle.report_json.specs.declared.fault.InputFault.TheVariants as input
use Rattle.report_json.specs.declared.told.Circumstances.{Circumstances}
use Rattle.report_json.specs.Line.{json_line}
use Rattle.report_json.specs.Told.{told_json}
use Rattle.tell_audit.specs.Findings.{ringed_threads}
use Rattle.tell_audit.specs.Left.{left_locks}
use Rattle.tell_audit.specs.Missed.{missed_packets}
use Rattle.tell_audit.specs.Naming.{lost_packets}
use Rattle.tell_json.specs.Audit.{audit_json}
use Rattle.tell_json.specs.declared.telling.Telling.{Telling}
use Rattle.tell_json.specs.Telling.{is_refused}
use Rattle.tell_uses.specs.Ledger.{Tells as TellsRun}
use Rattle.tell_uses.specs.Pending.{disagreeing, uses_of}
use Rattle.drvhost_devices.specs.declared.manner.Strictness.{Strictness}
use Rattle.drvhost_devices.specs.declared.verification.Verification.{Verification}
use Rattle.drvhost_devices.specs.Answer.{Answer, ended}
use Rattle.drvhost_devices.specs.Device.{Supply}
use Rattle.answer.specs.contracts.as_json.JsonForm.TheImpl.{ghosts as json_form}
use Rattle.answer.specs.declared.as_json.Json.{Json}
use Rattle.answer.specs.Run.{IsRunOf}
use Rattle.answer.specs.Told.{fault_answer}
use Rattle.answer_views.specs.Told.{replies_by, run_by, told_end}

-- these are the lines of events with these replies, the first of which has this number: each has
-- some circumstances
abbrev pub AreTold : ℕ → List Reply → List ℕ → Type 0
AreTold number [] text = text ≡ []
AreTold number (reply ∷ rest) text =
    (around : Circumstances) × ((later : List ℕ)
    × (text ≡ json_line (told_json number reply around) ++ later) × AreTold (number + 1) rest later)

-- the object of the audit of a run
abbrev pub audit_line : Set → Run → List ℕ
audit_line set r =
    json_line (audit_json (lost_packets r.world) (left_locks r.world (length set.devices))
    (ringed_threads set r.world) (missed_packets r.world) (disagreeing r.past (uses_of r.past)))

-- a run by a schedule is told: the lines of its events, and that of its audit; it ends as it does
-- where it is told in words
pub record IsRunToldInJson (strictness : Strictness) (set : Set) (threads : ℕ)
    (events : List Event) (answer : Answer) : Type 0 where
  pub lines : List ℕ
  pub are : AreTold 0 (replies_by set threads events) lines
  pub is : answer ≡ ended (told_end strictness set threads events)
      (lines ++ audit_line set (run_by set threads events))

-- or the fault of the schedule, which is the file of a name
abbrev pub IsScheduleTold : Strictness → List ℕ → Set → Result Schedule ScheduleFault → Answer
    → Type 0
IsScheduleTold strictness name set (Ok schedule) answer =
    IsRunToldInJson strictness set schedule.threads schedule.events answer
IsScheduleTold strictness name set (Err fault) answer =
    answer ≡ fault_answer name (input.Schedule fault)

-- by the schedule that the bytes of the file of a name list
abbrev pub IsToldBy : Strictness → List ℕ → Set → List ℕ → Answer → Type 0
IsToldBy strictness name set schedule answer =
    IsScheduleTold strictness name set (schedule_in schedule) answer

-- answers are said in JSON
abbrev pub as_json : Json
as_json = record {}

-- what `tell` answers in JSON for what the files of these names have, of a set and of a schedule:
-- the schedule's is read for a run alone
abbrev pub IsTellJsonOf : Verification → Strictness → List ℕ → List ℕ → Supply → Supply → Answer
    → Type 0
IsTellJsonOf verification strictness set_name schedule_name set schedule answer =
    IsRunOf json_form as_json set_name verification
    (λ bytes found given. IsToldBy strictness schedule_name found given) set schedule answer

-- what is known where these events of a run were told
pub record IsTelling (now : Telling) (set : Set) (threads : ℕ) (past : List Event) : Type 0 where
  pub numbered : now.number ≡ length past
  pub told : AreTold 0 (replies set threads past) now.lines
  pub refused : now.refused ≡ list_any is_refused (replies set threads past)
  pub tells : TellsRun (run set threads past) now.ledger
