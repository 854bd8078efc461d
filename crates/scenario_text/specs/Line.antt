-- One line of a scenario: what it says, or the kind of the first token that can't stand there.
use Rattle.std.specs.Prelude.{ℕ, ◌^◌, ◌-◌, ◌&&◌, Bool, true, false, List, [], ◌∷◌, bytes_eq, codes, Option, Some, None, Result, Ok, Err, if◌then◌else◌}
use Rattle.interleave.specs.Line.{and_then}
use Rattle.interleave.specs.declared.schedule.ScheduleKind.{ScheduleKind}
use Rattle.interleave.specs.declared.schedule.ScheduleKind.TheVariants.{Lex, UnknownWord}
use Rattle.text.specs.Class.{is_name}
use Rattle.text.specs.Cut.{is_clean, tokens_of}
use Rattle.scenario_expected.specs.Expecting.{expect_line}
use Rattle.scenario_names.specs.Names.{Named}
use Rattle.scenario_names.specs.Operands.{byte_of, device_of, major_from, number_of, packet_of, spin_lock_of, spot_labelled, spot_on_line}
use Rattle.scenario_text.specs.Together.{together_line}
use Rattle.scenario_text.specs.declared.reading.Said.{Said}
use Rattle.scenario_steps.specs.declared.scenario.Action.{Action}
use Rattle.scenario_steps.specs.declared.scenario.Action.TheVariants.{Issue, Cancel, Interrupt, Dpc, StartIo, Steps, Run, RunTo, RunToRelease, RunAll, Together, Expect}

-- a request to a device
abbrev pub issues : Named → List ℕ → List ℕ → List ℕ → List ℕ → Result Action ScheduleKind
issues names thread device major argument =
    and_then
    (λ t. and_then
    (λ d. and_then
    (λ m. and_then (λ a. Ok (Issue t d m a)) (number_of 0 (2 ^ 64 - 1) argument))
    (major_from major)) (device_of names.devices device)) (byte_of thread)

-- `T DEVICE MAJOR ARGUMENT`
abbrev pub request_line : Named → List (List ℕ) → Result Action ScheduleKind
request_line names (thread ∷ device ∷ major ∷ argument ∷ []) =
    issues names thread device major argument
request_line names _ = Err UnknownWord

-- `NAME = issue T DEVICE MAJOR ARGUMENT`, of which the name is given
abbrev pub issue_line : Named → List ℕ → List (List ℕ) → Result Action ScheduleKind
issue_line names name [] = Err UnknownWord
issue_line names name (equals ∷ []) = Err UnknownWord
issue_line names name (equals ∷ word ∷ operands) =
    if is_name name && bytes_eq equals (codes "=") && bytes_eq word (codes "issue")
    then request_line names operands else Err UnknownWord

-- the StartIo routine of a device, on a thread
abbrev pub starts : Named → List ℕ → List ℕ → Result Action ScheduleKind
starts names thread device =
    and_then (λ t. and_then (λ d. Ok (StartIo t d)) (device_of names.devices device)) (byte_of thread)

-- `startio T DEVICE`
abbrev pub startio_line : Named → List (List ℕ) → Result Action ScheduleKind
startio_line names (thread ∷ device ∷ []) = starts names thread device
startio_line names _ = Err UnknownWord

-- the DPC of a device, on a thread
abbrev pub begins : Named → List ℕ → List ℕ → Result Action ScheduleKind
begins names thread device =
    and_then (λ t. and_then (λ d. Ok (Dpc t d)) (device_of names.devices device)) (byte_of thread)

-- `dpc T DEVICE`
abbrev pub dpc_line : Named → List (List ℕ) → Result Action ScheduleKind
dpc_line names (thread ∷ device ∷ []) = begins names thread device
dpc_line names _ = Err UnknownWord

-- `interrupt DEVICE`
abbrev pub interrupt_line : Named → List (List ℕ) → Result Action ScheduleKind
interrupt_line names (device ∷ []) = and_then (λ d. Ok (Interrupt d)) (device_of names.devices device)
interrupt_line names _ = Err UnknownWord

-- the cancel of a packet on a thread, at a level
abbrev pub cancels : List (List ℕ) → List ℕ → List ℕ → List ℕ → Result Action ScheduleKind
cancels packets thread packet level =
    and_then
    (λ t. and_then (λ p. and_then (λ l. Ok (Cancel t p l)) (byte_of level))
    (packet_of packets packet)) (byte_of thread)

-- `cancel T PACKET LEVEL`, or `cancel T PACKET` at PASSIVE_LEVEL
abbrev pub cancel_line : List (List ℕ) → List (List ℕ) → Result Action ScheduleKind
cancel_line packets (thread ∷ packet ∷ []) = cancels packets thread packet (codes "0")
cancel_line packets (thread ∷ packet ∷ level ∷ []) = cancels packets thread packet level
cancel_line packets _ = Err UnknownWord

-- so many steps of a thread
abbrev pub steps_of : List ℕ → List ℕ → Result Action ScheduleKind
steps_of thread count =
    and_then (λ t. and_then (λ n. Ok (Steps t n)) (number_of 1 1000000 count)) (byte_of thread)

-- `step T N`, or `step T` for one step
abbrev pub steps_line : List (List ℕ) → Result Action ScheduleKind
steps_line (thread ∷ []) = steps_of thread (codes "1")
steps_line (thread ∷ count ∷ []) = steps_of thread count
steps_line _ = Err UnknownWord

-- a run of a thread up to the instruction with a label, or in a line
abbrev pub to_label : Named → List ℕ → List ℕ → Result Action ScheduleKind
to_label names thread place =
    and_then (λ t. and_then (λ s. Ok (RunTo t s)) (spot_labelled names place)) (byte_of thread)

abbrev pub to_number : Named → List ℕ → List ℕ → List ℕ → Result Action ScheduleKind
to_number names thread word number =
    if bytes_eq word (codes "line")
    then and_then (λ t. and_then (λ s. Ok (RunTo t s)) (spot_on_line names number)) (byte_of thread)
    else Err UnknownWord

-- a run of a thread up to the release of a spin lock
abbrev pub to_release : List ℕ → List ℕ → Result Action ScheduleKind
to_release thread lock =
    and_then (λ t. and_then (λ l. Ok (RunToRelease t l)) (spin_lock_of lock)) (byte_of thread)

-- `ROUTINE:LABEL`, `line N`, or `release LOCK`
abbrev pub until_line : Named → List ℕ → List (List ℕ) → Result Action ScheduleKind
until_line names thread (place ∷ []) = to_label names thread place
until_line names thread (word ∷ operand ∷ []) =
    if bytes_eq word (codes "release") then to_release thread operand
    else to_number names thread word operand
until_line names thread _ = Err UnknownWord

-- `run all`, or `run T`
abbrev pub run_of : List ℕ → Result Action ScheduleKind
run_of thread =
    if bytes_eq thread (codes "all") then Ok RunAll else and_then (λ t. Ok (Run t)) (byte_of thread)

-- one of these, or `run T until PLACE`
abbrev pub run_line : Named → List (List ℕ) → Result Action ScheduleKind
run_line names [] = Err UnknownWord
run_line names (thread ∷ []) = run_of thread
run_line names (thread ∷ word ∷ operands) =
    if bytes_eq word (codes "until") then until_line names thread operands else Err UnknownWord

-- what a line does, of which the first word is given
abbrev pub action_line : Named → List (List ℕ) → List ℕ → List (List ℕ)
    → Result Action ScheduleKind
action_line names packets word operands =
    if bytes_eq word (codes "run") then run_line names operands else
    (if bytes_eq word (codes "step") then steps_line operands else
    (if bytes_eq word (codes "cancel") then cancel_line packets operands else
    (if bytes_eq word (codes "interrupt") then interrupt_line names operands else
    (if bytes_eq word (codes "dpc") then dpc_line names operands else
    (if bytes_eq word (codes "startio") then startio_line names operands else
    issue_line names word operands)))))

-- the name of the packet that is issued, if one is, where the line begins with this word
abbrev pub named : Action → List ℕ → Option (List ℕ)
named (Issue t d major argument) word = Some word
named (Cancel t packet level) word = None
named (Interrupt d) word = None
named (Dpc t d) word = None
named (StartIo t d) word = None
named (Steps t count) word = None
named (Run t) word = None
named (RunTo t spot) word = None
named (RunToRelease t lock) word = None
named RunAll word = None
named (Together threads worlds) word = None
named (Expect expected) word = None

abbrev pub saying : Bool → List ℕ → Action → Said
saying may word action = record { name = named action word; may = may; action = action }

abbrev pub says : Bool → List ℕ → Result Action ScheduleKind → Result (Option Said) ScheduleKind
says may word action = and_then (λ a. Ok (Some (saying may word a))) action

-- `may STEP`
abbrev pub may_line : Named → List (List ℕ) → List (List ℕ)
    → Result (Option Said) ScheduleKind
may_line names packets [] = Err UnknownWord
may_line names packets (word ∷ operands) =
    says true word (action_line names packets word operands)

-- what a line says behind the one that gives the threads, or None for a blank one: with the names of
-- the set's devices, and those of the packets that were issued in lines before it
abbrev pub line_of : Named → List (List ℕ) → List (List ℕ)
    → Result (Option Said) ScheduleKind
line_of names packets [] = Ok None
line_of names packets (word ∷ operands) =
    if bytes_eq word (codes "may") then may_line names packets operands else
    (if bytes_eq word (codes "expect")
    then says false word (and_then (λ e. Ok (Expect e)) (expect_line names packets operands)) else
    (if bytes_eq word (codes "together") then says false word (together_line operands)
    else says false word (action_line names packets word operands)))

-- the tokens of a line whose bytes are all allowed
abbrev pub clean_tokens : List ℕ → Result (List (List ℕ)) ScheduleKind
clean_tokens line = if is_clean line then Ok (tokens_of line) else Err Lex
