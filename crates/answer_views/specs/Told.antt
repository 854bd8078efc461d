-- What `tell` answers: the trace of a run with words behind the reply of each event, and its audit;
-- and what `draw` does: a picture of the run.
use Rattle.std.specs.Prelude.{ℕ, ◌≡◌, ◌+◌, ◌++◌, ◌||◌, Bool, true, false, if◌then◌else◌, List, [], ◌∷◌, ◌-◌, codes, length, replicate, take, Option, None, Result, Ok, Err}
use Rattle.std.specs.List.{list_any}
use Rattle.tell_audit.specs.Findings.{has_findings}
use Rattle.tell_uses.specs.declared.acting.Acting.{Acting}
use Rattle.tell_uses.specs.Acting.{acting_in}
use Rattle.tell_uses.specs.Computing.{computes}
use Rattle.tell_json.specs.Telling.{is_refused}
use Rattle.tell_uses.specs.Ledger.{Tells as TellsRun}
use Rattle.tell_words.specs.declared.line.Happened.{Happened}
use Rattle.checked.specs.GoingOn.{GoesOn}
use Rattle.interleave.specs.declared.schedule.Schedule.{Schedule}
use Rattle.interleave.specs.declared.schedule.ScheduleFault.{ScheduleFault}
use Rattle.interleave.specs.Listing.{schedule_in}
use Rattle.model.specs.declared.event.Event.{Event}
use Rattle.model.specs.declared.event.Event.TheVariants.{Step}
use Rattle.model.specs.declared.event.Reply.{Reply}
use Rattle.model.specs.declared.event.Reply.TheVariants.{Started, Stepped, Finished, Topped, Waited, Idle, Refused, Bug, Wrong}
use Rattle.model.specs.Machine.{Machine, ShowsWhole}
use Rattle.model.specs.History.{replies}
use Rattle.model.specs.Run.{Run, begun, run, step}
use Rattle.model.specs.Set.{Set}
use Rattle.model.specs.Trace.{Entry}
use Rattle.model.specs.World.{World}
use Rattle.report.specs.Fault.{schedule_fault_line}
use Rattle.report.specs.Reply.{worded_line}
use Rattle.drvhost_devices.specs.declared.fault.End.{End}
use Rattle.drvhost_devices.specs.declared.fault.End.TheVariants.{Complete, Stopped}
use Rattle.drvhost_devices.specs.Strict.{fails_strictly}
use Rattle.drvhost_devices.specs.declared.figure.Figure.{Figure}
use Rattle.drvhost_devices.specs.declared.manner.Detail.{Detail}
use Rattle.drvhost_devices.specs.declared.manner.Detail.TheVariants.{Every, Usual, Quiet}
use Rattle.drvhost_devices.specs.declared.manner.Manner.{Manner}
use Rattle.drvhost_devices.specs.declared.manner.Strictness.{Strictness}
use Rattle.answer_views.specs.declared.telling.Telling.{Telling}
use Rattle.drvhost_devices.specs.declared.verification.Verification.{Verification}
use Rattle.drvhost_devices.specs.Answer.{Answer, ended, faulty, is_last, shown_replies}
use Rattle.drvhost_devices.specs.Device.{Supply}
use Rattle.answer.specs.contracts.as_text.TextForm.TheImpl.{ghosts as text_form}
use Rattle.answer.specs.declared.as_text.Text.{Text}
use Rattle.answer.specs.Run.{IsRunOf}
use Rattle.answer_runs.specs.Watching.{until_end}

-- a reply that only says that a step was made, or that there was nothing to do
abbrev pub is_quiet : Reply → Bool
is_quiet Stepped = true
is_quiet Idle = true
is_quiet (Started packet) = false
is_quiet Finished = false
is_quiet (Topped packet status info) = false
is_quiet Waited = false
is_quiet Refused = false
is_quiet (Bug bug) = false
is_quiet (Wrong place) = false

-- one to an event that isn't about a packet, a lock, a list or a level, by what acted in it: there
-- was nothing to do, or a step only computed
abbrev pub is_incidental : Option Acting → Reply → Bool
is_incidental acting Idle = true
is_incidental acting Stepped = computes acting
is_incidental acting (Started packet) = false
is_incidental acting Finished = false
is_incidental acting (Topped packet status info) = false
is_incidental acting Waited = false
is_incidental acting Refused = false
is_incidental acting (Bug bug) = false
is_incidental acting (Wrong place) = false

-- whether no line is told of an event, by what acted in it, and the reply
abbrev pub is_left_out : Detail → Option Acting → Reply → Bool
is_left_out Every acting reply = false
is_left_out Usual acting reply = is_incidental acting reply
is_left_out Quiet acting reply = is_quiet reply

-- an event of a run, as levels see it: the frame that acted in it, and the reply
pub record Occurrence : Type 0 where
  pub acting : Option Acting
  pub reply : Reply

abbrev pub occurs : Option Acting → Reply → Occurrence
occurs acting reply = record { acting = acting; reply = reply }

-- what is told of an event, with these words: a line, or nothing
abbrev pub told_line : Detail → ℕ → Occurrence → List ℕ → List ℕ
told_line detail number o words =
    if is_left_out detail o.acting o.reply then [] else worded_line number o.reply words

-- a line with words before its end
abbrev pub headed : List ℕ → List ℕ → List ℕ
headed line words = take (length line - 1) line ++ (words ++ 10 ∷ [])

-- what is told of events, the first of which has this number: of each a line with some words, or
-- nothing
abbrev pub IsTold : Detail → ℕ → List Occurrence → List ℕ → Type 0
IsTold detail number [] text = text ≡ []
IsTold detail number (o ∷ rest) text =
    (words : List ℕ) × ((later : List ℕ)
    × (text ≡ told_line detail number o words ++ later)
    × IsTold detail (number + 1) rest later)

-- the events of a run, one for each of these
abbrev pub occurrences : Set → Run → List Event → List Occurrence
occurrences set r [] = []
occurrences set r (e ∷ events) =
    occurs (acting_in set r.world e) (step set r e).reply
    ∷ occurrences set (step set r e).run events

-- an event that a machine is about to apply, with this reply, and one that has happened
abbrev pub occurs_in : Machine → Event → Reply → Occurrence
occurs_in m e reply = occurs (acting_in m.set m.world e) reply

abbrev pub has_occurred : Happened → Occurrence
has_occurred happened = occurs happened.moment.acting happened.reply

-- a reply that an event has again where it happens again, without doing anything
abbrev pub happens_again : Reply → Bool
happens_again Waited = true
happens_again Idle = true
happens_again (Started packet) = false
happens_again Stepped = false
happens_again Finished = false
happens_again (Topped packet status info) = false
happens_again Refused = false
happens_again (Bug bug) = false
happens_again (Wrong place) = false

-- how often it is told, with the first of so many of them
abbrev pub times_of : Reply → ℕ → ℕ
times_of reply count = if happens_again reply then count else 1

-- an event is told
abbrev pub ToldOnce : Detail → ℕ → Occurrence → List ℕ → List ℕ → Type 0
ToldOnce detail number o text more =
    (words : List ℕ) × (more ≡ text ++ told_line detail number o words)

-- and so many times in a row
abbrev pub ToldTimes : Detail → ℕ → Occurrence → ℕ → List ℕ → List ℕ → Type 0
ToldTimes detail number o times text more =
    (added : List ℕ) × (more ≡ text ++ added) × IsTold detail number (replicate times o) added

-- where a machine shows a run
abbrev pub InRuns : Machine → Type 0 → Type 0
InRuns m A = (threads : ℕ) (events : List Event) → ShowsWhole m threads events → A

-- an event was applied so many times, each time as a step that changes nothing but the activation
-- on its thread's top; never, where it is no step
abbrev pub GoesAlone : Event → Machine → ℕ → Machine → Type 0
GoesAlone (Step t) m k n = GoesOn t m k n
GoesAlone e m k n = (k ≡ 0) × (n ≡ m)

-- a step of which it isn't known what acted
abbrev pub unknown_step : Occurrence
unknown_step = occurs None Stepped

-- a step is told alike, whatever acted
abbrev pub TellsAlike : Detail → Type 0
TellsAlike detail =
    (acting : Option Acting) → is_left_out detail acting Stepped ≡ is_left_out detail None Stepped

-- so many such steps are told, the first of which has this number
abbrev pub ToldAlone : Detail → ℕ → ℕ → List ℕ → List ℕ → Type 0
ToldAlone detail number k text more =
    TellsAlike detail × ToldTimes detail number unknown_step k text more

-- the events of a run by a schedule, up to one that stops it; the replies to them, and the run
-- that they make
abbrev pub events_by : Set → ℕ → List Event → List Event
events_by set threads events = until_end set (begun set threads) events

abbrev pub replies_by : Set → ℕ → List Event → List Reply
replies_by set threads events = shown_replies set (begun set threads) events

abbrev pub run_by : Set → ℕ → List Event → Run
run_by set threads events = run set threads (events_by set threads events)

-- the events as they are told, and the world and the trace that they leave
abbrev pub occurrences_by : Set → ℕ → List Event → List Occurrence
occurrences_by set threads events =
    occurrences set (begun set threads) (events_by set threads events)

abbrev pub world_by : Set → ℕ → List Event → World
world_by set threads events = (run_by set threads events).world

abbrev pub past_by : Set → ℕ → List Event → List Entry
past_by set threads events = (run_by set threads events).past

-- how a run that is told ends: stopped also where its audit finds anything amiss, and, if it is
-- told strictly, where an event was refused
abbrev pub told_end : Strictness → Set → ℕ → List Event → End
told_end strictness set threads events =
    if (list_any is_last (replies_by set threads events)
    || fails_strictly strictness (list_any is_refused (replies_by set threads events)))
    || has_findings set (world_by set threads events) (past_by set threads events)
    then Stopped else Complete

-- a run by a schedule is told: the lines of its events, and then some words on its audit
pub record IsRunTold (manner : Manner) (set : Set) (threads : ℕ) (events : List Event)
    (answer : Answer) : Type 0 where
  pub lines : List ℕ
  pub words : List ℕ
  pub told : IsTold manner.detail 0 (occurrences_by set threads events) lines
  pub is : answer ≡ ended (told_end manner.strictness set threads events)
      (lines ++ (codes "\naudit\n" ++ words))

-- a run by a schedule is drawn: a picture, and the run's end
pub record IsRunDrawn (set : Set) (threads : ℕ) (events : List Event) (answer : Answer)
    : Type 0 where
  pub picture : List ℕ
  pub is : answer ≡ ended (if list_any is_last (replies_by set threads events)
      then Stopped else Complete) picture

-- answers are said as text
abbrev pub as_text : Text
as_text = record {}

-- the run of a set by a schedule is shown, where these are the right answers for a run; or the
-- fault of the schedule is told, with some words behind its line
abbrev pub IsScheduleShown : (Set → ℕ → List Event → Answer → Type 0) → Set
    → Result Schedule ScheduleFault → Answer → Type 0
IsScheduleShown IsShown set (Ok schedule) answer =
    IsShown set schedule.threads schedule.events answer
IsScheduleShown IsShown set (Err fault) answer =
    (words : List ℕ) × (answer ≡ faulty (schedule_fault_line fault ++ words))

-- by the schedule that these bytes list
abbrev pub IsShownBy : (Set → ℕ → List Event → Answer → Type 0) → Set → List ℕ → Answer → Type 0
IsShownBy IsShown set schedule answer =
    IsScheduleShown IsShown set (schedule_in schedule) answer

-- what is answered as text for what the files of a set and of a schedule have, where a run is
-- shown so: the schedule's is read for a run alone
abbrev pub IsShownOf : Verification → (Set → ℕ → List Event → Answer → Type 0) → Supply → Supply
    → Answer → Type 0
IsShownOf verification IsShown set schedule answer =
    IsRunOf text_form as_text [] verification (λ bytes found given. IsShownBy IsShown found given)
    set schedule answer

-- what `tell` answers, and what `draw` does
abbrev pub IsTellOf : Verification → Manner → Supply → Supply → Answer → Type 0
IsTellOf verification manner set schedule answer =
    IsShownOf verification (IsRunTold manner) set schedule answer

abbrev pub IsDrawOf : Verification → Figure → Supply → Supply → Answer → Type 0
IsDrawOf verification figure set schedule answer =
    IsShownOf verification IsRunDrawn set schedule answer

-- what is known where these events of a run were told: their lines, whether one was refused, and
-- their uses
pub record IsTelling (start now : Telling) (set : Set) (threads : ℕ) (past : List Event) : Type 0
  where
    pub detail : now.page.detail ≡ start.page.detail
    pub numbered : now.page.number ≡ length past
    pub told :
        IsTold now.page.detail 0 (occurrences set (begun set threads) past)
        now.page.text.items
    pub refused : now.refused ≡ list_any is_refused (replies set threads past)
    pub tells : TellsRun (run set threads past) now.sight.ledger
