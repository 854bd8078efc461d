-- What a line of a scenario expects.
use Rattle.std.specs.Prelude.{ℕ, ◌^◌, ◌-◌, ◌&&◌, ◌||◌, Bool, List, [], ◌∷◌, bytes_eq, codes, Option, Some, None, Result, Ok, Err, if◌then◌else◌}
use Rattle.interleave.specs.Line.{and_then}
use Rattle.interleave.specs.declared.schedule.ScheduleKind.{ScheduleKind}
use Rattle.interleave.specs.declared.schedule.ScheduleKind.TheVariants.{UnknownWord}
use Rattle.model.specs.declared.abs.Rule.{Rule}
use Rattle.model.specs.declared.limits.TheConstants.{MAX_INSTRUCTIONS}
use Rattle.model.specs.declared.status.Status.{Status}
use Rattle.scenario_names.specs.Names.{Named}
use Rattle.scenario_names.specs.Operands.{byte_of, device_of, number_of, packet_of, routine_of, rule_named, spot_labelled, spot_on_line, status_named}
use Rattle.scenario_expected.specs.Places.{cancel_lock_line, current_line, held_line, in_line, of_line, own_list_line}
use Rattle.scenario_expected.specs.declared.expectation.DeviceState.{DeviceState}
use Rattle.scenario_expected.specs.declared.expectation.DeviceState.TheVariants as device
use Rattle.scenario_expected.specs.declared.expectation.Expectation.{Expectation}
use Rattle.scenario_expected.specs.declared.expectation.Expectation.TheVariants.{Clean, Bug, Packet, Thread, Device, Verdict}
use Rattle.scenario_expected.specs.declared.expectation.List.TheVariants.{StartList, DeviceQueue}
use Rattle.scenario_expected.specs.declared.expectation.PacketState.{PacketState}
use Rattle.scenario_expected.specs.declared.expectation.PacketState.TheVariants.{Live, Cancelled, Marked, Unmarked, Topped}
use Rattle.scenario_expected.specs.declared.expectation.ThreadState.{ThreadState}
use Rattle.scenario_expected.specs.declared.expectation.ThreadState.TheVariants as thread
use Rattle.scenario_expected.specs.declared.expectation.Verdict.TheVariants.{Accepted, Refused}

-- `information N`, of which the first word is given, behind a status or without
abbrev pub topped_information : Option Status → List ℕ → List (List ℕ)
    → Result PacketState ScheduleKind
topped_information status word (number ∷ []) =
    if bytes_eq word (codes "information")
    then and_then (λ n. Ok (Topped status (Some n))) (number_of 0 (2 ^ 64 - 1) number)
    else Err UnknownWord
topped_information status word _ = Err UnknownWord

-- `[information N]`
abbrev pub topped_as : Option Status → List (List ℕ) → Result PacketState ScheduleKind
topped_as status [] = Ok (Topped status None)
topped_as status (word ∷ operands) = topped_information status word operands

-- with the status that a word may be
abbrev pub topped_by : Option Status → List ℕ → List (List ℕ) → Result PacketState ScheduleKind
topped_by (Some status) word operands = topped_as (Some status) operands
topped_by None word operands = topped_information None word operands

-- `[STATUS] [information N]`
abbrev pub topped_line : List (List ℕ) → Result PacketState ScheduleKind
topped_line [] = Ok (Topped None None)
topped_line (word ∷ operands) = topped_by (status_named word) word operands

-- a word alone
abbrev pub packet_word : List ℕ → List (List ℕ) → Result PacketState ScheduleKind
packet_word word [] =
    if bytes_eq word (codes "live") then Ok Live else
    (if bytes_eq word (codes "cancelled") then Ok Cancelled else
    (if bytes_eq word (codes "marked") then Ok Marked else
    (if bytes_eq word (codes "unmarked") then Ok Unmarked else Err UnknownWord)))
packet_word word _ = Err UnknownWord

-- a word alone; `topped` and how, or where it stands
abbrev pub packet_state : Named → List ℕ → List (List ℕ) → Result PacketState ScheduleKind
packet_state names word operands =
    if bytes_eq word (codes "topped") then topped_line operands else
    (if bytes_eq word (codes "in") then in_line names operands else
    (if bytes_eq word (codes "current") then current_line names operands else
    (if bytes_eq word (codes "held") then held_line names operands else packet_word word operands)))

-- `PACKET STATE`
abbrev pub packet_line : Named → List (List ℕ) → List ℕ → List ℕ → List (List ℕ)
    → Result Expectation ScheduleKind
packet_line names packets name word operands =
    and_then (λ p. and_then (λ s. Ok (Packet p s)) (packet_state names word operands))
    (packet_of packets name)

-- `idle`, `busy` or `dpc queued`
abbrev pub device_state : List ℕ → List (List ℕ) → Result DeviceState ScheduleKind
device_state word [] =
    if bytes_eq word (codes "idle") then Ok device.Idle else
    (if bytes_eq word (codes "busy") then Ok device.Busy else Err UnknownWord)
device_state word (next ∷ []) =
    if bytes_eq word (codes "dpc") && bytes_eq next (codes "queued") then Ok device.DpcQueued
    else Err UnknownWord
device_state word (next ∷ other ∷ rest) = Err UnknownWord

-- `DEVICE STATE`
abbrev pub device_line : Named → List ℕ → List ℕ → List (List ℕ)
    → Result Expectation ScheduleKind
device_line names name word operands =
    and_then (λ d. and_then (λ s. Ok (Device d s)) (device_state word operands))
    (device_of names.devices name)

-- a word that says something of a device
abbrev pub is_device_word : List ℕ → Bool
is_device_word word =
    bytes_eq word (codes "idle") || bytes_eq word (codes "busy") || bytes_eq word (codes "dpc")

-- `idle`, `busy` or `waiting`
abbrev pub thread_state : List ℕ → Result ThreadState ScheduleKind
thread_state word =
    if bytes_eq word (codes "idle") then Ok thread.Idle else
    (if bytes_eq word (codes "busy") then Ok thread.Busy else
    (if bytes_eq word (codes "waiting") then Ok thread.Waiting else Err UnknownWord))

-- a thread before the instruction with a label, or in a line
abbrev pub at_label : Named → List ℕ → List ℕ → List ℕ → Result Expectation ScheduleKind
at_label names number word place =
    if bytes_eq word (codes "at")
    then and_then (λ t. and_then (λ s. Ok (Thread t (thread.At s))) (spot_labelled names place))
    (byte_of number)
    else Err UnknownWord

abbrev pub at_number : Named → List ℕ → List ℕ → List ℕ → List ℕ → Result Expectation ScheduleKind
at_number names number word line place =
    if bytes_eq word (codes "at") && bytes_eq line (codes "line")
    then and_then (λ t. and_then (λ s. Ok (Thread t (thread.At s))) (spot_on_line names place))
    (byte_of number)
    else Err UnknownWord

-- one that waits for another
abbrev pub waiting_for : List ℕ → List ℕ → List ℕ → List ℕ → List ℕ
    → Result Expectation ScheduleKind
waiting_for number word for word_thread other =
    if bytes_eq word (codes "waiting") && bytes_eq for (codes "for")
    && bytes_eq word_thread (codes "thread")
    then and_then (λ t. and_then (λ u. Ok (Thread t (thread.WaitingFor u))) (byte_of other))
    (byte_of number)
    else Err UnknownWord

-- `thread T STATE`: a word alone, `at ROUTINE:LABEL`, `at line N`, or `waiting for thread U`
abbrev pub thread_line : Named → List ℕ → List (List ℕ) → Result Expectation ScheduleKind
thread_line names number (word ∷ []) =
    and_then (λ t. and_then (λ s. Ok (Thread t s)) (thread_state word)) (byte_of number)
thread_line names number (word ∷ place ∷ []) = at_label names number word place
thread_line names number (word ∷ line ∷ place ∷ []) = at_number names number word line place
thread_line names number (word ∷ for ∷ word_thread ∷ other ∷ []) =
    waiting_for number word for word_thread other
thread_line names number _ = Err UnknownWord

-- `bug NUMBER`
abbrev pub bug_line : List ℕ → List (List ℕ) → Result Expectation ScheduleKind
bug_line number [] = and_then (λ n. Ok (Bug n)) (byte_of number)
bug_line number (next ∷ rest) = Err UnknownWord

-- of a device, of what it has, of the system cancel spin lock, or of a packet
abbrev pub expecting_of : Named → List (List ℕ) → List ℕ → List ℕ → List (List ℕ)
    → Result Expectation ScheduleKind
expecting_of names packets name word operands =
    if is_device_word word then device_line names name word operands else
    (if bytes_eq word (codes "of") then of_line names packets name operands else
    (if bytes_eq name (codes "cancel") && bytes_eq word (codes "lock")
    then cancel_lock_line operands else
    (if bytes_eq name (codes "start") && bytes_eq word (codes "list")
    then own_list_line names packets StartList operands else
    (if bytes_eq name (codes "device") && bytes_eq word (codes "queue")
    then own_list_line names packets DeviceQueue operands
    else packet_line names packets name word operands))))

-- `at ROUTINE POSITION`, behind the rule that is broken there first
abbrev pub refused_at : Named → Rule → List ℕ → List ℕ → Result Expectation ScheduleKind
refused_at names rule routine position =
    and_then
    (λ s. and_then
    (λ n. Ok (Verdict (Refused rule (record { driver = s.driver; routine = s.routine; position = n }))))
    (number_of 0 (MAX_INSTRUCTIONS - 1) position)) (routine_of names routine)

abbrev pub refused_line : Named → Rule → List (List ℕ) → Result Expectation ScheduleKind
refused_line names rule (at ∷ routine ∷ position ∷ []) =
    if bytes_eq at (codes "at") then refused_at names rule routine position else Err UnknownWord
refused_line names rule _ = Err UnknownWord

-- with a rule behind it `refused` is a verdict, else it is a name like others
abbrev pub refused_or : Named → List (List ℕ) → List ℕ → List ℕ → List (List ℕ) → Option Rule
    → Result Expectation ScheduleKind
refused_or names packets name word operands (Some rule) = refused_line names rule operands
refused_or names packets name word operands None = expecting_of names packets name word operands

-- what is expected of what has a name: of a thread, which bug check or refusal, or of the rest
abbrev pub expecting : Named → List (List ℕ) → List ℕ → List ℕ → List (List ℕ)
    → Result Expectation ScheduleKind
expecting names packets name word operands =
    if bytes_eq name (codes "thread") then thread_line names word operands else
    (if bytes_eq name (codes "bug") then bug_line word operands else
    (if bytes_eq name (codes "refused")
    then refused_or names packets name word operands (rule_named word)
    else expecting_of names packets name word operands))

-- what stands behind `expect`
abbrev pub expect_line : Named → List (List ℕ) → List (List ℕ) → Result Expectation ScheduleKind
expect_line names packets [] = Err UnknownWord
expect_line names packets (word ∷ []) =
    if bytes_eq word (codes "clean") then Ok Clean else
    (if bytes_eq word (codes "accepted") then Ok (Verdict Accepted) else Err UnknownWord)
expect_line names packets (name ∷ word ∷ operands) =
    expecting names packets name word operands
