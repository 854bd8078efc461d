-- A text as a script: the commands that it lists, or its first faulty line with the least kind of
-- what is wrong there. Lines and tokens, and the kinds of faults, are those of a schedule.
use Rattle.std.specs.Prelude.{◌≡◌, ◌⊎◌, ℕ, ◌+◌, ◌-◌, ◌^◌, ◌&&◌, nat_lt, List, [], ◌∷◌, ◌++◌, length, slice_get, bytes_eq, codes, option_and_then, Option, Some, None, Result, Ok, Err, if◌then◌else◌}
use Rattle.model.specs.declared.history.Command.{Command}
use Rattle.model.specs.declared.history.Command.TheVariants.{Request, Cancel, Interrupt}
use Rattle.model.specs.declared.history.Name.{Name}
use Rattle.model.specs.declared.status.Major.{Major}
use Rattle.text.specs.Class.{is_number}
use Rattle.text.specs.Cut.{lines_of}
use Rattle.text.specs.Major.{major_of}
use Rattle.interleave.specs.Line.{and_then, checked_tokens, number_within, ranged}
use Rattle.interleave.specs.Listing.{at_line}
use Rattle.interleave.specs.declared.schedule.ScheduleFault.{ScheduleFault}
use Rattle.interleave.specs.declared.schedule.ScheduleKind.{ScheduleKind}
use Rattle.interleave.specs.declared.schedule.ScheduleKind.TheVariants.{UnknownWord, TooLong, Memory}

-- the request of these numbers
abbrev pub request : Option ℕ → Major → Option ℕ → Option Command
request (Some device) major (Some argument) = Some (Request device major argument)
request _ _ _ = None

-- the request, if its numbers are in range
abbrev pub requests : List ℕ → Major → List ℕ → Option Command
requests device major argument =
    request (number_within 0 255 device) major (number_within 0 (2 ^ 64 - 1) argument)

abbrev pub request_as : List ℕ → Option Major → List ℕ → Result (Option Command) ScheduleKind
request_as device None argument = Err UnknownWord
request_as device (Some major) argument = ranged (requests device major argument)

-- a request for a device
abbrev pub request_of : List ℕ → List ℕ → List ℕ → Result (Option Command) ScheduleKind
request_of device major argument =
    if is_number device && is_number argument
    then request_as device (major_of major) argument else Err UnknownWord

-- `request D MAJOR ARG`
abbrev pub request_line : List (List ℕ) → Result (Option Command) ScheduleKind
request_line (device ∷ major ∷ argument ∷ []) = request_of device major argument
request_line _ = Err UnknownWord

-- the name of a command of this number, if it is a request; all are of one submitter
abbrev pub named : ℕ → Option Command → Option Name
named count (Some (Request device major argument)) = Some (record { submitter = 0; count = count })
named count _ = None

-- the name of the command of this number, counted from 0, if that is a request
abbrev pub name_at : List Command → ℕ → Option Name
name_at commands count = named count (slice_get commands count)

-- the cancel of the request of this name, at this level
abbrev pub cancelling : Option Name → Option ℕ → Option Command
cancelling (Some name) (Some level) = Some (Cancel name level)
cancelling _ _ = None

-- the cancel, if its number is that of an earlier request and its level is in range
abbrev pub cancels : List Command → List ℕ → List ℕ → Option Command
cancels commands count level =
    cancelling (option_and_then (name_at commands) (number_within 0 (2 ^ 64 - 1) count))
    (number_within 0 255 level)

-- the cancel of a request, at a level
abbrev pub cancel_of : List Command → List ℕ → List ℕ → Result (Option Command) ScheduleKind
cancel_of commands count level =
    if is_number count && is_number level
    then ranged (cancels commands count level) else Err UnknownWord

-- `cancel K LEVEL`
abbrev pub cancel_line : List Command → List (List ℕ) → Result (Option Command) ScheduleKind
cancel_line commands (count ∷ level ∷ []) = cancel_of commands count level
cancel_line commands _ = Err UnknownWord

-- the interrupt of the device of this number
abbrev pub interruption : Option ℕ → Option Command
interruption (Some device) = Some (Interrupt device)
interruption None = None

-- the interrupt, if its number is in range
abbrev pub interrupts : List ℕ → Option Command
interrupts device = interruption (number_within 0 255 device)

-- an interrupt of a device
abbrev pub interrupt_of : List ℕ → Result (Option Command) ScheduleKind
interrupt_of device = if is_number device then ranged (interrupts device) else Err UnknownWord

-- `interrupt D`
abbrev pub interrupt_line : List (List ℕ) → Result (Option Command) ScheduleKind
interrupt_line (device ∷ []) = interrupt_of device
interrupt_line _ = Err UnknownWord

-- a line that gives a command, after these commands, or None for a blank one
abbrev pub command_of : List Command → List (List ℕ) → Result (Option Command) ScheduleKind
command_of commands [] = Ok None
command_of commands (word ∷ operands) =
    if bytes_eq word (codes "request") then request_line operands else
    (if bytes_eq word (codes "cancel") then cancel_line commands operands else
    (if bytes_eq word (codes "interrupt") then interrupt_line operands else Err UnknownWord))

abbrev pub command_line : List Command → List ℕ → Result (Option Command) ScheduleKind
command_line commands line = and_then (command_of commands) (checked_tokens line)

-- the commands with that of a line after them, at most 65,536
abbrev pub lengthened : List Command → Option Command → Result (List Command) ScheduleKind
lengthened commands None = Ok commands
lengthened commands (Some command) = if nat_lt (length commands) 65536
    then Ok (commands ++ command ∷ []) else Err TooLong

-- the commands after a line
abbrev pub commands_after : List Command → List ℕ → Result (List Command) ScheduleKind
commands_after commands line = and_then (lengthened commands) (command_line commands line)

-- the commands with those of these lines after them, of which the first has the number n
abbrev pub listing : List Command → ℕ → List (List ℕ) → Result (List Command) ScheduleFault
listing commands n [] = Ok commands
listing commands n (line ∷ lines) =
    at_line n (commands_after commands line) (λ more. listing more (n + 1) lines)

-- the commands that a script lists, or its first fault
abbrev pub script_in : List ℕ → Result (List Command) ScheduleFault
script_in text = listing [] 1 (lines_of text)

-- the fault is the script's first, or that memory ran out
abbrev pub IsFaultOf : List ℕ → ScheduleFault → Type 0
IsFaultOf text fault = (fault ≡ record { line = 0; kind = Memory }) ⊎ (script_in text ≡ Err fault)
