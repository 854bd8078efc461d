-- A run that is told in a form is what `trace` answers, as text and in JSON.
use Rattle.std.proofs.Common.{◌≡◌, ◌∙◌, ℕ, List, inl, inr, Result, Ok, Err, ap, if◌then◌else◌}
use Rattle.std.specs.Prelude.{⊤}
use Rattle.std.specs.List.{list_any}
use Rattle.interleave.specs.declared.schedule.Schedule.{Schedule}
use Rattle.interleave.specs.declared.schedule.ScheduleFault.{ScheduleFault}
use Rattle.interleave.specs.Listing.{schedule_in}
use Rattle.model.specs.declared.event.Reply.{Reply}
use Rattle.model.specs.Set.{Set}
use Rattle.report.specs.Reply.{reply_line}
use Rattle.drvhost_devices.specs.declared.fault.End.TheVariants.{Complete, Stopped}
use Rattle.drvhost_devices.specs.declared.verification.Verification.{Verification}
use Rattle.drvhost_devices.specs.declared.verification.Verification.TheVariants.{Required, Skipped}
use Rattle.drvhost_devices.specs.Answer.{Answer, ended, is_last, ran, trace_of}
use Rattle.drvhost_devices.specs.Device.{Supply}
use Rattle.drvhost_devices.specs.Ends.{IsTraceOf}
use Rattle.answer.specs.contracts.as_json.JsonForm.TheImpl.{ghosts as json_form}
use Rattle.answer.specs.contracts.as_text.TextForm.TheImpl.{ghosts as text_form}
use Rattle.answer.specs.declared.as_json.Json.{Json}
use Rattle.answer.specs.declared.as_text.Text.{Text}
use Rattle.answer.specs.Run.{IsRunOf}
use Rattle.answer.specs.Told.{IsToldOf}
use Rattle.answer_runs.specs.contracts.in_json.JsonRunForm.TheImpl.{ghosts as json_run}
use Rattle.answer_runs.specs.contracts.in_text.TextRunForm.TheImpl.{ghosts as text_run}
use Rattle.answer_runs.specs.InJson.{IsJudgedJson, IsRanJson, IsRunInJson, IsRunJsonOf, IsTraceJsonOf, event_line}
use Rattle.answer_runs.specs.Traced.{IsTraceBy}
use Rattle.answer_runs.specs.Tracing.{IsTraced, IsTracedBy}
use Rattle.answer_runs.specs.declared.trace.TraceOptions.{TraceOptions}
use Rattle.answer_runs.proofs.Following.{lines_same}

-- the lines of a run are its trace: as text all of them, since memory doesn't run out on the way
pub text_traced : (all : List Reply) (answer : Answer) → IsTraceBy ⊥ reply_line all answer
    → answer ≡ trace_of all
text_traced all answer (inl is) =
    is ∙ ap (λ lines. ended (if list_any is_last all then Stopped else Complete) lines)
    (lines_same 0 all)
text_traced all answer (inr (lacks, begins)) = absurd lacks

pub json_traced : (all : List Reply) (answer : Answer) → IsTraceBy ⊤ event_line all answer
    → IsRunInJson all answer
json_traced all answer (inl is) = inl is
json_traced all answer (inr (lacks, begins)) = inr begins

-- a run or the fault of its schedule
text_ran : (it : Text) (name : List ℕ) (read : Result Schedule ScheduleFault) (set : Set)
    (answer : Answer) → IsTraced text_run it name read set answer → answer ≡ ran set read
text_ran it name (Ok schedule) set answer is = is
text_ran it name (Err fault) set answer is = is

json_ran : (it : Json) (name : List ℕ) (read : Result Schedule ScheduleFault) (set : Set)
    (answer : Answer) → IsTraced json_run it name read set answer
    → IsRanJson name read set answer
json_ran it name (Ok schedule) set answer is = is
json_ran it name (Err fault) set answer is = is

-- what is told as text is what `trace` answers
pub in_text : (it : Text) (name other : List ℕ) (verification : Verification)
    (set schedule : Supply) (answer : Answer)
    → IsRunOf text_form it name verification (IsTracedBy text_run it other) set schedule answer
    → IsTraceOf verification set schedule answer
in_text it name other Required set schedule answer
    (bytes, holds, inl (found, says, inl (typable, (text, has, is)))) = (
      bytes,
      holds,
      (
        Ok found,
        says,
        inl (typable, (text, has, text_ran it other (schedule_in text) found answer is)),
      ),
    )
in_text it name other Required set schedule answer (bytes, holds, inl (found, says, inr is)) =
    (bytes, holds, (Ok found, says, inr is))
in_text it name other Required set schedule answer (bytes, holds, inr (line, says, is)) =
    (bytes, holds, (Err line, says, is))
in_text it name other Skipped set schedule answer
    (bytes, holds, inl (found, says, (text, has, is))) = (
      bytes,
      holds,
      (
        Ok found,
        says,
        (text, has, text_ran it other (schedule_in text) found answer is),
      ),
    )
in_text it name other Skipped set schedule answer (bytes, holds, inr (line, says, is)) =
    (bytes, holds, (Err line, says, is))

-- and in JSON, by the verdict that is asked for
json_judged : (it : Json) (name other : List ℕ) (verification : Verification)
    (set schedule : Supply) (answer : Answer)
    → IsRunOf json_form it name verification (IsTracedBy json_run it other) set schedule answer
    → IsToldOf (λ bytes. IsJudgedJson verification name (IsRunJsonOf other schedule)) name set answer
json_judged it name other Required set schedule answer
    (bytes, holds, inl (found, says, inl (typable, (text, has, is)))) = (
      bytes,
      holds,
      (
        Ok found,
        says,
        inl (typable, (text, has, json_ran it other (schedule_in text) found answer is)),
      ),
    )
json_judged it name other Required set schedule answer (bytes, holds, inl (found, says, inr is)) =
    (bytes, holds, (Ok found, says, inr is))
json_judged it name other Required set schedule answer (bytes, holds, inr (fault, says, is)) =
    (bytes, holds, (Err fault, says, is))
json_judged it name other Skipped set schedule answer
    (bytes, holds, inl (found, says, (text, has, is))) = (
      bytes,
      holds,
      (
        Ok found,
        says,
        (text, has, json_ran it other (schedule_in text) found answer is),
      ),
    )
json_judged it name other Skipped set schedule answer (bytes, holds, inr (fault, says, is)) =
    (bytes, holds, (Err fault, says, is))

pub in_json : (it : Json) (asked : TraceOptions) (set schedule : Supply) (answer : Answer)
    → IsRunOf json_form it asked.set.now asked.verification
    (IsTracedBy json_run it asked.schedule.now) set schedule answer
    → IsTraceJsonOf asked set schedule answer
in_json it asked set schedule answer is =
    json_judged it asked.set.now asked.schedule.now asked.verification set schedule answer is
