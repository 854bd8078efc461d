-- The text of a schedule: a line that says how many threads there are, and one for each event, where
-- steps of a thread that come one after another stand on one line.
use Rattle.std.specs.Prelude.{ℕ, ◌+◌, ◌++◌, Bool, true, false, List, [], ◌∷◌, Option, None, Some, codes, decimal, nat_eq, slice_get, if◌then◌else◌}
use Rattle.interleave.specs.declared.schedule.Schedule.{Schedule}
use Rattle.interleave.specs.Listing.{Lists}
use Rattle.interleave_texts.specs.Words.{event_words}
use Rattle.model.specs.declared.event.Event.{Event}
use Rattle.model.specs.declared.event.Event.TheVariants.{Issue, Cancel, Interrupt, Dpc, StartIo, Step}

-- whether an event is what a caller asks for
abbrev pub is_call : Event → Bool
is_call (Issue thread device major argument) = true
is_call (Cancel thread packet level) = true
is_call (Interrupt device) = false
is_call (Dpc thread device) = false
is_call (StartIo thread device) = false
is_call (Step thread) = false

-- whether an event is a step of a thread
abbrev pub steps : ℕ → Event → Bool
steps t (Step thread) = nat_eq thread t
steps t (Issue thread device major argument) = false
steps t (Cancel thread packet level) = false
steps t (Interrupt device) = false
steps t (Dpc thread device) = false
steps t (StartIo thread device) = false

-- whether an event and the next one are steps of one thread
abbrev pub goes_on : Event → Option Event → Bool
goes_on e None = false
goes_on (Step thread) (Some next) = steps thread next
goes_on (Issue thread device major argument) (Some next) = false
goes_on (Cancel thread packet level) (Some next) = false
goes_on (Interrupt device) (Some next) = false
goes_on (Dpc thread device) (Some next) = false
goes_on (StartIo thread device) (Some next) = false

-- the line of an event that happens so many times in a row
abbrev pub event_line : Event → ℕ → List ℕ
event_line e times = event_words e times ++ codes "\n"

-- the lines of events, of which the first is on a line already so many times
abbrev pub event_lines : ℕ → List Event → List ℕ
event_lines times [] = []
event_lines times (e ∷ events) =
    if goes_on e (slice_get events 0) then event_lines (times + 1) events
    else (event_line e (times + 1) ++ event_lines 0 events)

-- the text of so many threads and these events
abbrev pub schedule_text : Schedule → List ℕ
schedule_text s =
    (codes "threads " ++ (decimal s.threads ++ codes "\n")) ++ event_lines 0 s.events

-- that text, read back, is another schedule
abbrev pub IsUnlisted : Schedule → Type 0
IsUnlisted s = Lists (schedule_text s) s → ⊥
