-- The operands of a line: what each token may be, or the kind of what is wrong with it.
use Rattle.std.specs.Prelude.{ℕ, ◌+◌, ◌^◌, ◌-◌, nat_eq, nat_lt, Bool, List, [], ◌∷◌, bytes_eq, drop, position, take, Option, Some, None, Result, Ok, Err, if◌then◌else◌}
use Rattle.std.specs.List.{find}
use Rattle.asm_line.specs.Words.{status_text}
use Rattle.interleave.specs.Line.{and_then, number_within}
use Rattle.interleave.specs.declared.schedule.ScheduleKind.{ScheduleKind}
use Rattle.interleave.specs.declared.schedule.ScheduleKind.TheVariants.{UnknownWord, OutOfRange}
use Rattle.model.specs.declared.limits.TheConstants.{CELLS, MAX_QUEUES, SPIN_LOCKS}
use Rattle.model.specs.LocalRule.{rule_number}
use Rattle.model.specs.declared.abs.Rule.{Rule}
use Rattle.model.specs.declared.abs.Rule.TheVariants.{Malformed, Unreachable, StatesDiffer, WrongKind, DoubleCompletion, MarkIrpPending, CancelSpinLock, SpinLock, LockHeld, Level, Guard as GuardRule, CancelState, Dropped, Token, Sort as SortRule, Completion, StackTooSmall, NoLower, TooLong, Memory}
use Rattle.model.specs.declared.status.Major.{Major}
use Rattle.model.specs.declared.status.Status.{Status}
use Rattle.model.specs.declared.status.Status.TheVariants.{Success, Pending, Busy, Unsuccessful, InvalidParameter, InvalidDeviceRequest, Cancelled}
use Rattle.scenario_names.specs.declared.names.Spot.{Spot}
use Rattle.scenario_names.specs.declared.operands.CellName.{CellName}
use Rattle.scenario_names.specs.declared.operands.CellName.TheVariants.{Plain, Paged}
use Rattle.scenario_names.specs.Names.{Named, entry_of, labelled, on_line, queue_named}
use Rattle.text.specs.Class.{is_number}
use Rattle.text.specs.Major.{major_of}
use Rattle.text.specs.Number.{numbered_in}
use Rattle.text.specs.declared.number.Numeral.{Numeral}
use Rattle.text.specs.declared.number.Numeral.TheVariants.{Other, TooLarge, Number}

-- what there is, or that a number is out of range
abbrev pub in_range : {A : Type 0} → Option A → Result A ScheduleKind
in_range None = Err OutOfRange
in_range (Some a) = Ok a

-- what there is, or that a word isn't known
abbrev pub known : {A : Type 0} → Option A → Result A ScheduleKind
known None = Err UnknownWord
known (Some a) = Ok a

-- the number that a token writes, from least to most
abbrev pub number_of : ℕ → ℕ → List ℕ → Result ℕ ScheduleKind
number_of least most token =
    if is_number token then in_range (number_within least most token) else Err UnknownWord

-- the number of a thread, a device or a level
abbrev pub byte_of : List ℕ → Result ℕ ScheduleKind
byte_of token = number_of 0 255 token

-- a number that a device may have
abbrev pub small : Option ℕ → Option ℕ
small None = None
small (Some n) = if nat_lt n 256 then Some n else None

-- the number of the first device with this name
abbrev pub device_named : List (List ℕ) → List ℕ → Option ℕ
device_named devices name = small (position (bytes_eq name) devices)

-- the number of a device, which is given, or its place among the names of devices
abbrev pub device_of : List (List ℕ) → List ℕ → Result ℕ ScheduleKind
device_of devices token =
    if is_number token then byte_of token else known (device_named devices token)

-- the place of the last of these that has the name, where the first has the number n; found is what
-- was found before them
abbrev pub last_after : Option ℕ → ℕ → List (List ℕ) → List ℕ → Option ℕ
last_after found n [] name = found
last_after found n (packet ∷ packets) name =
    last_after (if bytes_eq name packet then Some n else found) (n + 1) packets name

abbrev pub last_named : List (List ℕ) → List ℕ → Option ℕ
last_named packets name = last_after None 0 packets name

-- the packet that was last issued under the name
abbrev pub packet_of : List (List ℕ) → List ℕ → Result ℕ ScheduleKind
packet_of packets name = known (last_named packets name)

-- the instruction in the line of a number
abbrev pub spot_on_line : Named → List ℕ → Result Spot ScheduleKind
spot_on_line names number =
    and_then (λ line. known (on_line names line)) (number_of 1 (2 ^ 64 - 1) number)

-- the instruction with a label in a routine, as `ROUTINE:LABEL` names it: its first colon parts it
abbrev pub spot_parted : Named → List ℕ → Option ℕ → Result Spot ScheduleKind
spot_parted names token None = Err UnknownWord
spot_parted names token (Some colon) =
    known (labelled names (take colon token) (drop (colon + 1) token))

abbrev pub spot_labelled : Named → List ℕ → Result Spot ScheduleKind
spot_labelled names token = spot_parted names token (position (λ byte. nat_eq byte 58) token)

-- the first instruction of a routine
abbrev pub routine_of : Named → List ℕ → Result Spot ScheduleKind
routine_of names token = known (entry_of names token)

-- a number below a bound, behind a letter
abbrev pub below : ℕ → Numeral → Result ℕ ScheduleKind
below bound (Number n) = if nat_lt n bound then Ok n else Err OutOfRange
below bound TooLarge = Err OutOfRange
below bound Other = Err UnknownWord

abbrev pub lettered : ℕ → ℕ → List ℕ → Result ℕ ScheduleKind
lettered letter bound token = below bound (numbered_in letter token)

-- a cell of a device: `c0` to `c15`, or `p0` to `p15`
abbrev pub cell_parted : Numeral → List ℕ → Result CellName ScheduleKind
cell_parted Other token = and_then (λ n. Ok (Paged n)) (lettered 112 CELLS token)
cell_parted (Number n) token = and_then (λ n. Ok (Plain n)) (below CELLS (Number n))
cell_parted TooLarge token = Err OutOfRange

abbrev pub cell_of : List ℕ → Result CellName ScheduleKind
cell_of token = cell_parted (numbered_in 99 token) token

-- a spin lock of a device: `l0` to `l7`
abbrev pub spin_lock_of : List ℕ → Result ℕ ScheduleKind
spin_lock_of token = lettered 108 SPIN_LOCKS token

-- a queue of a device: one that its driver names so, or `q0` to `q3`
abbrev pub queue_parted : List ℕ → Option ℕ → Result ℕ ScheduleKind
queue_parted token None = lettered 113 MAX_QUEUES token
queue_parted token (Some queue) = Ok queue

abbrev pub queue_of : Named → ℕ → List ℕ → Result ℕ ScheduleKind
queue_of names device token = queue_parted token (small (queue_named names device token))

-- the major function that a token names
abbrev pub major_from : List ℕ → Result Major ScheduleKind
major_from token = known (major_of token)

-- the status that a token names
abbrev pub statuses : List Status
statuses =
    Success ∷ Pending ∷ Busy ∷ Unsuccessful ∷ InvalidParameter ∷ InvalidDeviceRequest ∷ Cancelled
    ∷ []

abbrev pub status_named : List ℕ → Option Status
status_named token = find (λ status. bytes_eq token (status_text status)) statuses

-- the rule that a token names by its number
abbrev pub rules : List Rule
rules =
    Malformed ∷ Unreachable ∷ StatesDiffer ∷ WrongKind ∷ DoubleCompletion ∷ MarkIrpPending
    ∷ CancelSpinLock ∷ SpinLock ∷ LockHeld ∷ Level ∷ GuardRule ∷ CancelState ∷ Dropped ∷ Token
    ∷ SortRule ∷ Completion ∷ StackTooSmall ∷ NoLower ∷ TooLong ∷ Memory ∷ []

abbrev pub has_number : Rule → ℕ → Bool
has_number rule n = nat_eq (rule_number rule) n

abbrev pub rule_of : ℕ → Option Rule
rule_of n = find (λ rule. has_number rule n) rules

abbrev pub rule_in : Numeral → Option Rule
rule_in (Number n) = rule_of n
rule_in TooLarge = None
rule_in Other = None

abbrev pub rule_named : List ℕ → Option Rule
rule_named token = rule_in (numbered_in 86 token)
