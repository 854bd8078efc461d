-- A text as a schedule: the threads and events that it lists, or its first faulty line with the
-- least kind of what is wrong there.
use Rattle.std.specs.Prelude.{◌≡◌, ◌⊎◌, ℕ, ◌+◌, ◌≤◌, nat_le, List, [], ◌∷◌, ◌++◌, length, replicate, Option, Some, None, Result, Ok, Err, if◌then◌else◌}
use Rattle.model.specs.declared.event.Event.{Event}
use Rattle.model.specs.declared.limits.TheConstants.{MAX_THREADS}
use Rattle.text.specs.Cut.{lines_of}
use Rattle.interleave.specs.Line.{and_then, opening_line, event_line}
use Rattle.interleave.specs.declared.read.Repeated.{Repeated}
use Rattle.interleave.specs.declared.schedule.Schedule.{Schedule}
use Rattle.interleave.specs.declared.schedule.ScheduleFault.{ScheduleFault}
use Rattle.interleave.specs.declared.schedule.ScheduleKind.{ScheduleKind}
use Rattle.interleave.specs.declared.schedule.ScheduleKind.TheVariants.{UnknownWord, TooLong, Memory}

-- the events with those of a line after them, at most 1,000,000
abbrev pub lengthened : List Event → Option Repeated → Result (List Event) ScheduleKind
lengthened events None = Ok events
lengthened events (Some r) = if nat_le (length events + r.count) 1000000
    then Ok (events ++ replicate r.count r.event) else Err TooLong

-- the events after a line
abbrev pub events_after : List Event → List ℕ → Result (List Event) ScheduleKind
events_after events line = and_then (lengthened events) (event_line line)

-- what follows a line of this number, or that the line is faulty
abbrev pub at_line : {A B : Type 0} → ℕ → Result A ScheduleKind → (A → Result B ScheduleFault)
    → Result B ScheduleFault
at_line n (Ok a) next = next a
at_line n (Err kind) next = Err (record { line = n; kind = kind })

-- the events with those of these lines after them, of which the first has the number n
abbrev pub listing : List Event → ℕ → List (List ℕ) → Result (List Event) ScheduleFault
listing events n [] = Ok events
listing events n (line ∷ lines) =
    at_line n (events_after events line) (λ more. listing more (n + 1) lines)

-- a schedule of so many threads and these events
abbrev pub with_threads : ℕ → Result (List Event) ScheduleFault → Result Schedule ScheduleFault
with_threads threads (Ok events) = Ok (record { threads = threads; events = events })
with_threads threads (Err fault) = Err fault

-- how lines start: how many threads the first of them with a token says there are, its number, and
-- the lines behind it
pub record Start : Type 0 where
  pub threads : ℕ
  pub line : ℕ
  pub rest : List (List ℕ)

-- where a line of the number n says how many threads there are, they start; a blank line is passed over
abbrev pub started : ℕ → List (List ℕ) → Option ℕ → Result Start ScheduleFault
    → Result Start ScheduleFault
started n lines (Some threads) later = Ok (record { threads = threads; line = n; rest = lines })
started n lines None later = later

-- how these lines start, of which the first has the number n
abbrev pub start : ℕ → List (List ℕ) → Result Start ScheduleFault
start n [] = Err (record { line = n; kind = UnknownWord })
start n (line ∷ lines) =
    at_line n (opening_line line) (λ threads. started n lines threads (start (n + 1) lines))

-- the schedule of a start, with the events of the lines behind it
abbrev pub opened : Result Start ScheduleFault → Result Schedule ScheduleFault
opened (Ok s) = with_threads s.threads (listing [] (s.line + 1) s.rest)
opened (Err fault) = Err fault

-- the schedule of these lines, of which the first has the number n
abbrev pub opening : ℕ → List (List ℕ) → Result Schedule ScheduleFault
opening n lines = opened (start n lines)

-- the schedule that a text lists, or its first fault
abbrev pub schedule_in : List ℕ → Result Schedule ScheduleFault
schedule_in text = opening 1 (lines_of text)

-- the text lists the schedule
abbrev pub Lists : List ℕ → Schedule → Type 0
Lists text schedule = schedule_in text ≡ Ok schedule

-- the fault is the text's first, or that memory ran out
abbrev pub IsFaultOf : List ℕ → ScheduleFault → Type 0
IsFaultOf text fault = (fault ≡ record { line = 0; kind = Memory }) ⊎ (schedule_in text ≡ Err fault)

-- as many threads and events as a schedule may have
pub record IsWithinLimits (schedule : Schedule) : Type 0 where
  pub some_threads : 1 ≤ schedule.threads
  pub most_threads : schedule.threads ≤ MAX_THREADS
  pub most_events : length schedule.events ≤ 1000000
