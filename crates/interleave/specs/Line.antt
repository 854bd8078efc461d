-- One line of a schedule: what it stands for, or the least kind of what is wrong with it.
use Rattle.std.specs.Prelude.{ℕ, ◌^◌, ◌-◌, ◌&&◌, nat_le, List, [], ◌∷◌, bytes_eq, codes, Option, Some, None, Result, Ok, Err, if◌then◌else◌}
use Rattle.model.specs.declared.event.Event.TheVariants.{Issue, Cancel, Interrupt, Dpc, StartIo, Step}
use Rattle.model.specs.declared.limits.TheConstants.{MAX_THREADS}
use Rattle.model.specs.declared.status.Major.{Major}
use Rattle.text.specs.Cut.{tokens_of}
use Rattle.text.specs.Class.{is_number}
use Rattle.text.specs.Lexical.{is_lexical}
use Rattle.text.specs.Major.{major_of}
use Rattle.text.specs.Number.{number_in}
use Rattle.text.specs.declared.number.Numeral.{Numeral}
use Rattle.text.specs.declared.number.Numeral.TheVariants.{Other, TooLarge, Number}
use Rattle.interleave.specs.declared.read.Repeated.{Repeated}
use Rattle.interleave.specs.declared.schedule.ScheduleKind.{ScheduleKind}
use Rattle.interleave.specs.declared.schedule.ScheduleKind.TheVariants.{Lex, UnknownWord, OutOfRange}

-- a number from least to most
abbrev pub within : ℕ → ℕ → Numeral → Option ℕ
within least most (Number n) = if nat_le least n && nat_le n most then Some n else None
within least most TooLarge = None
within least most Other = None

-- the number that a token writes, from least to most
abbrev pub number_within : ℕ → ℕ → List ℕ → Option ℕ
number_within least most token = within least most (number_in token)

-- what a line of a good form stands for, or that a number of it is out of range
abbrev pub ranged : {A : Type 0} → Option A → Result (Option A) ScheduleKind
ranged None = Err OutOfRange
ranged (Some a) = Ok (Some a)

-- so many threads
abbrev pub threads_of : List ℕ → Result (Option ℕ) ScheduleKind
threads_of count =
    if is_number count then ranged (number_within 1 MAX_THREADS count) else Err UnknownWord

-- `threads K`
abbrev pub threads_line : List (List ℕ) → Result (Option ℕ) ScheduleKind
threads_line (count ∷ []) = threads_of count
threads_line _ = Err UnknownWord

-- the line that says how many threads there are, or None for a blank one
abbrev pub opening_of : List (List ℕ) → Result (Option ℕ) ScheduleKind
opening_of [] = Ok None
opening_of (word ∷ operands) = if bytes_eq word (codes "threads") then threads_line operands
    else Err UnknownWord

-- the request of these numbers, once
abbrev pub request : Option ℕ → Option ℕ → Major → Option ℕ → Option Repeated
request (Some thread) (Some device) major (Some argument) =
    Some (record { event = Issue thread device major argument; count = 1 })
request _ _ _ _ = None

-- the request, if its numbers are in range
abbrev pub issues : List ℕ → List ℕ → Major → List ℕ → Option Repeated
issues thread device major argument =
    request (number_within 0 255 thread) (number_within 0 255 device) major
    (number_within 0 (2 ^ 64 - 1) argument)

abbrev pub issue_as : List ℕ → List ℕ → Option Major → List ℕ
    → Result (Option Repeated) ScheduleKind
issue_as thread device None argument = Err UnknownWord
issue_as thread device (Some major) argument = ranged (issues thread device major argument)

-- a request to a device
abbrev pub issue_of : List ℕ → List ℕ → List ℕ → List ℕ → Result (Option Repeated) ScheduleKind
issue_of thread device major argument =
    if is_number thread && is_number device && is_number argument
    then issue_as thread device (major_of major) argument else Err UnknownWord

-- `issue T D MAJOR ARG`
abbrev pub issue_line : List (List ℕ) → Result (Option Repeated) ScheduleKind
issue_line (thread ∷ device ∷ major ∷ argument ∷ []) = issue_of thread device major argument
issue_line _ = Err UnknownWord

-- the cancel of these numbers, once
abbrev pub cancelling : Option ℕ → Option ℕ → Option ℕ → Option Repeated
cancelling (Some thread) (Some packet) (Some level) =
    Some (record { event = Cancel thread packet level; count = 1 })
cancelling (Some thread) (Some packet) None = None
cancelling (Some thread) None level = None
cancelling None packet level = None

-- the cancel, if its numbers are in range; which levels there are is left to the run
abbrev pub cancels : List ℕ → List ℕ → List ℕ → Option Repeated
cancels thread packet level =
    cancelling (number_within 0 255 thread) (number_within 0 (2 ^ 64 - 1) packet)
    (number_within 0 255 level)

-- the cancel of a packet, on a thread at a level
abbrev pub cancel_of : List ℕ → List ℕ → List ℕ → Result (Option Repeated) ScheduleKind
cancel_of thread packet level =
    if is_number thread && is_number packet && is_number level
    then ranged (cancels thread packet level) else Err UnknownWord

-- `cancel T N LEVEL`
abbrev pub cancel_line : List (List ℕ) → Result (Option Repeated) ScheduleKind
cancel_line (thread ∷ packet ∷ level ∷ []) = cancel_of thread packet level
cancel_line _ = Err UnknownWord

-- the interrupt of the device of this number, once
abbrev pub interruption : Option ℕ → Option Repeated
interruption (Some device) = Some (record { event = Interrupt device; count = 1 })
interruption None = None

-- the interrupt, if its number is in range
abbrev pub interrupts : List ℕ → Option Repeated
interrupts device = interruption (number_within 0 255 device)

-- an interrupt of a device
abbrev pub interrupt_of : List ℕ → Result (Option Repeated) ScheduleKind
interrupt_of device = if is_number device then ranged (interrupts device) else Err UnknownWord

-- `interrupt D`
abbrev pub interrupt_line : List (List ℕ) → Result (Option Repeated) ScheduleKind
interrupt_line (device ∷ []) = interrupt_of device
interrupt_line _ = Err UnknownWord

-- the DPC of these numbers, once
abbrev pub beginning : Option ℕ → Option ℕ → Option Repeated
beginning (Some thread) (Some device) = Some (record { event = Dpc thread device; count = 1 })
beginning _ _ = None

-- the DPC, if its numbers are in range
abbrev pub begins : List ℕ → List ℕ → Option Repeated
begins thread device = beginning (number_within 0 255 thread) (number_within 0 255 device)

-- the DPC of a device, on a thread
abbrev pub dpc_of : List ℕ → List ℕ → Result (Option Repeated) ScheduleKind
dpc_of thread device = if is_number thread && is_number device then ranged (begins thread device)
    else Err UnknownWord

-- `dpc T D`
abbrev pub dpc_line : List (List ℕ) → Result (Option Repeated) ScheduleKind
dpc_line (thread ∷ device ∷ []) = dpc_of thread device
dpc_line _ = Err UnknownWord

-- the start of these numbers, once
abbrev pub starting : Option ℕ → Option ℕ → Option Repeated
starting (Some thread) (Some device) = Some (record { event = StartIo thread device; count = 1 })
starting (Some thread) None = None
starting None device = None

-- the start, if its numbers are in range
abbrev pub starts : List ℕ → List ℕ → Option Repeated
starts thread device = starting (number_within 0 255 thread) (number_within 0 255 device)

-- the start of the StartIo routine of a device, on a thread
abbrev pub startio_of : List ℕ → List ℕ → Result (Option Repeated) ScheduleKind
startio_of thread device =
    if is_number thread && is_number device then ranged (starts thread device) else Err UnknownWord

-- `startio T D`
abbrev pub startio_line : List (List ℕ) → Result (Option Repeated) ScheduleKind
startio_line (thread ∷ device ∷ []) = startio_of thread device
startio_line _ = Err UnknownWord

-- these steps, of these numbers
abbrev pub stepping : Option ℕ → Option ℕ → Option Repeated
stepping (Some thread) (Some count) = Some (record { event = Step thread; count = count })
stepping _ _ = None

-- the steps, if their numbers are in range
abbrev pub steps : List ℕ → List ℕ → Option Repeated
steps thread count = stepping (number_within 0 255 thread) (number_within 1 1000000 count)

-- so many steps of a thread
abbrev pub steps_of : List ℕ → List ℕ → Result (Option Repeated) ScheduleKind
steps_of thread count = if is_number thread && is_number count then ranged (steps thread count)
    else Err UnknownWord

-- `step T K`, or `step T` for one step
abbrev pub step_line : List (List ℕ) → Result (Option Repeated) ScheduleKind
step_line (thread ∷ []) = steps_of thread (codes "1")
step_line (thread ∷ count ∷ []) = steps_of thread count
step_line _ = Err UnknownWord

-- a line that stands for events, or None for a blank one
abbrev pub event_of : List (List ℕ) → Result (Option Repeated) ScheduleKind
event_of [] = Ok None
event_of (word ∷ operands) =
    if bytes_eq word (codes "issue") then issue_line operands else
    (if bytes_eq word (codes "cancel") then cancel_line operands else
    (if bytes_eq word (codes "interrupt") then interrupt_line operands else
    (if bytes_eq word (codes "dpc") then dpc_line operands else
    (if bytes_eq word (codes "startio") then startio_line operands else
    (if bytes_eq word (codes "step") then step_line operands else Err UnknownWord)))))

-- the tokens of a line, if its bytes and tokens are all allowed
abbrev pub checked_tokens : List ℕ → Result (List (List ℕ)) ScheduleKind
checked_tokens line = if is_lexical line then Ok (tokens_of line) else Err Lex

-- one reading after another, up to the first fault
abbrev pub and_then : {A B : Type 0} → (A → Result B ScheduleKind) → Result A ScheduleKind
    → Result B ScheduleKind
and_then next (Ok a) = next a
and_then next (Err kind) = Err kind

-- a line where no line before it has said how many threads there are
abbrev pub opening_line : List ℕ → Result (Option ℕ) ScheduleKind
opening_line line = and_then opening_of (checked_tokens line)

-- a line after that
abbrev pub event_line : List ℕ → Result (Option Repeated) ScheduleKind
event_line line = and_then event_of (checked_tokens line)
