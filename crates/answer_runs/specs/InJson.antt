-- What `trace` answers in JSON: a line for each event of the run, for the verdict on a set that is
-- refused, or for the fault of a file.
use Rattle.std.specs.Prelude.{ℕ, ◌≡◌, ◌⊎◌, List, Result, Ok, Err}
use Rattle.interleave.specs.declared.schedule.Schedule.{Schedule}
use Rattle.interleave.specs.declared.schedule.ScheduleFault.{ScheduleFault}
use Rattle.interleave.specs.Listing.{schedule_in}
use Rattle.model.specs.declared.event.Reply.{Reply}
use Rattle.model.specs.Run.{begun}
use Rattle.model.specs.Set.{Set}
use Rattle.model.specs.Typable.{IsTypable}
use Rattle.report_json.specs.declared.fault.InputFault.TheVariants as input
use Rattle.report_json.specs.Event.{event_json}
use Rattle.report_json.specs.Line.{json_line}
use Rattle.drvhost_devices.specs.declared.verification.Verification.{Verification}
use Rattle.drvhost_devices.specs.declared.verification.Verification.TheVariants.{Required, Skipped}
use Rattle.drvhost_devices.specs.Answer.{Answer, shown_replies}
use Rattle.drvhost_devices.specs.Device.{Holds, Supply}
use Rattle.answer.specs.Check.{IsRefusalJson}
use Rattle.answer.specs.Told.{IsToldOf, fault_answer}
use Rattle.answer_runs.specs.declared.trace.TraceOptions.{TraceOptions}
use Rattle.answer_runs.specs.Traced.{IsBeginning, traced_by}

-- the line of the reply to the event of a number
abbrev pub event_line : ℕ → Reply → List ℕ
event_line number reply = json_line (event_json number reply)

-- the trace of a run with these replies, or a beginning of it where memory ran out
abbrev pub IsRunInJson : List Reply → Answer → Type 0
IsRunInJson all answer =
    (answer ≡ traced_by event_line all) ⊎ IsBeginning (traced_by event_line all) answer

-- the run of a set by a schedule, or the fault of the schedule, which is the file of a name
abbrev pub IsRanJson : List ℕ → Result Schedule ScheduleFault → Set → Answer → Type 0
IsRanJson name (Ok schedule) set answer =
    IsRunInJson (shown_replies set (begun set schedule.threads) schedule.events) answer
IsRanJson name (Err fault) set answer = answer ≡ fault_answer name (input.Schedule fault)

-- what a run of a set by the schedule answers that a source has, which is the file of a name
abbrev pub IsRunJsonOf : List ℕ → Supply → Set → Answer → Type 0
IsRunJsonOf name supply set answer =
    (text : List ℕ) × Holds supply text × IsRanJson name (schedule_in text) set answer

-- a set that has to be accepted, and isn't, is not run, where these are the answers of a run
abbrev pub IsJudgedJson : Verification → List ℕ → (Set → Answer → Type 0) → Set → Answer → Type 0
IsJudgedJson Required name IsRun set answer =
    (IsTypable set × IsRun set answer) ⊎ IsRefusalJson name set answer
IsJudgedJson Skipped name IsRun set answer = IsRun set answer

-- what is right for a set
abbrev pub IsTraceJson : TraceOptions → Supply → Set → Answer → Type 0
IsTraceJson asked schedule set answer =
    IsJudgedJson asked.verification asked.set.now (IsRunJsonOf asked.schedule.now schedule) set answer

-- what `trace` answers for what the sources have that are the files of these names: it reads the
-- schedule's for a run alone
abbrev pub IsTraceJsonOf : TraceOptions → Supply → Supply → Answer → Type 0
IsTraceJsonOf asked set schedule answer =
    IsToldOf (λ bytes. IsTraceJson asked schedule) asked.set.now set answer
