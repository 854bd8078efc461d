-- The words of an event in a schedule.
use Rattle.std.specs.Prelude.{ℕ, ◌++◌, List, [], codes, decimal, nat_lt, if◌then◌else◌}
use Rattle.model.specs.declared.event.Event.{Event}
use Rattle.model.specs.declared.event.Event.TheVariants.{Issue, Cancel, Interrupt, Dpc, StartIo, Step}
use Rattle.model.specs.declared.status.Major.{Major}
use Rattle.model.specs.declared.status.Major.TheVariants.{Read, Write, Control}

-- the word of a major function, with a space on each side
abbrev pub major_word : Major → List ℕ
major_word Read = codes " READ "
major_word Write = codes " WRITE "
major_word Control = codes " CONTROL "

-- a word and one number or two
abbrev pub one_number : List ℕ → ℕ → List ℕ
one_number word first = word ++ decimal first

abbrev pub two_numbers : List ℕ → ℕ → ℕ → List ℕ
two_numbers word first second = word ++ (decimal first ++ (codes " " ++ decimal second))

-- steps of a thread
abbrev pub step_words : ℕ → ℕ → List ℕ
step_words thread times =
    if nat_lt 1 times then two_numbers (codes "step ") thread times
    else one_number (codes "step ") thread

-- an event that happens so many times in a row
abbrev pub event_words : Event → ℕ → List ℕ
event_words (Issue thread device major argument) times =
    two_numbers (codes "issue ") thread device ++ (major_word major ++ decimal argument)
event_words (Cancel thread packet level) times =
    two_numbers (codes "cancel ") thread packet ++ (codes " " ++ decimal level)
event_words (Interrupt device) times = one_number (codes "interrupt ") device
event_words (Dpc thread device) times = two_numbers (codes "dpc ") thread device
event_words (StartIo thread device) times = two_numbers (codes "startio ") thread device
event_words (Step thread) times = step_words thread times
