-- What a line expects of cells, locks and lists of devices, and of where a packet stands.
use Rattle.std.specs.Prelude.{ℕ, ◌+◌, ◌^◌, ◌-◌, ◌&&◌, nat_lt, List, [], ◌∷◌, bytes_eq, codes, replicate, slice_set, Option, Some, None, Result, Ok, Err, if◌then◌else◌}
use Rattle.interleave.specs.Line.{and_then}
use Rattle.interleave.specs.declared.schedule.ScheduleKind.{ScheduleKind}
use Rattle.interleave.specs.declared.schedule.ScheduleKind.TheVariants.{UnknownWord}
use Rattle.model.specs.declared.event.Lock.TheVariants.{SystemCancel, Spin}
use Rattle.scenario_names.specs.Names.{Named}
use Rattle.scenario_names.specs.Operands.{byte_of, cell_of, device_of, number_of, packet_of, queue_of, routine_of, spin_lock_of}
use Rattle.scenario_expected.specs.declared.expectation.DeviceState.TheVariants.{Has}
use Rattle.scenario_expected.specs.declared.expectation.Expectation.{Expectation}
use Rattle.scenario_expected.specs.declared.expectation.Expectation.TheVariants.{Device, Lock, Listed}
use Rattle.scenario_expected.specs.declared.expectation.List.{List as ListName}
use Rattle.scenario_expected.specs.declared.expectation.List.TheVariants.{Queue, StartList, DeviceQueue}
use Rattle.scenario_expected.specs.declared.expectation.PacketState.{PacketState}
use Rattle.scenario_expected.specs.declared.expectation.PacketState.TheVariants.{In, Current, Held}
use Rattle.scenario_expected.specs.declared.expectation.TheConstants.{MAX_LISTED}

-- `CELL of DEVICE is NUMBER`, of which the tokens in capitals are given
abbrev pub cell_is : Named → List ℕ → List ℕ → List ℕ → Result Expectation ScheduleKind
cell_is names cell device number =
    and_then
    (λ c. and_then
    (λ d. and_then (λ n. Ok (Device d (Has c n))) (number_of 0 (2 ^ 64 - 1) number))
    (device_of names.devices device)) (cell_of cell)

abbrev pub cell_line : Named → List ℕ → List ℕ → List (List ℕ) → Result Expectation ScheduleKind
cell_line names cell device (number ∷ []) = cell_is names cell device number
cell_line names cell device _ = Err UnknownWord

-- `free`, or `owned by thread T`: who owns a lock
abbrev pub owning : List ℕ → List ℕ → List ℕ → List ℕ → Result (Option ℕ) ScheduleKind
owning owned by thread number =
    if bytes_eq owned (codes "owned") && bytes_eq by (codes "by") && bytes_eq thread (codes "thread")
    then and_then (λ t. Ok (Some t)) (byte_of number) else Err UnknownWord

abbrev pub owner_line : List ℕ → List (List ℕ) → Result (Option ℕ) ScheduleKind
owner_line word [] = if bytes_eq word (codes "free") then Ok None else Err UnknownWord
owner_line word (by ∷ thread ∷ number ∷ []) = owning word by thread number
owner_line word _ = Err UnknownWord

-- `LOCK of DEVICE free`, or `LOCK of DEVICE owned by thread T`
abbrev pub spin_line : Named → List ℕ → List ℕ → List ℕ → List (List ℕ)
    → Result Expectation ScheduleKind
spin_line names lock device word operands =
    and_then
    (λ l. and_then
    (λ d. and_then
    (λ owner. Ok (Lock (Spin (record { device = d; number = l })) owner)) (owner_line word operands))
    (device_of names.devices device)) (spin_lock_of lock)

-- the same of the system cancel spin lock, behind `cancel lock`
abbrev pub cancel_lock_line : List (List ℕ) → Result Expectation ScheduleKind
cancel_lock_line [] = Err UnknownWord
cancel_lock_line (word ∷ operands) =
    and_then (λ owner. Ok (Lock SystemCancel owner)) (owner_line word operands)

-- these packets and others, of which the first has the place k
abbrev pub packets_from : List (List ℕ) → List (Option ℕ) → ℕ → List (List ℕ)
    → Result (List (Option ℕ)) ScheduleKind
packets_from packets listed k [] = Ok listed
packets_from packets listed k (name ∷ names) =
    if nat_lt k MAX_LISTED
    then and_then (λ p. packets_from packets (slice_set listed k (Some p)) (k + 1) names)
    (packet_of packets name)
    else Err UnknownWord

abbrev pub none_listed : List (Option ℕ)
none_listed = replicate MAX_LISTED None

-- `empty`, or `has PACKET ..`: what stands in a list
abbrev pub packets_line : List (List ℕ) → List ℕ → List (List ℕ)
    → Result (List (Option ℕ)) ScheduleKind
packets_line packets word [] =
    if bytes_eq word (codes "empty") then Ok none_listed else Err UnknownWord
packets_line packets word (name ∷ names) =
    if bytes_eq word (codes "has") then packets_from packets none_listed 0 (name ∷ names)
    else Err UnknownWord

-- of a list of a device
abbrev pub listed_line : List (List ℕ) → ℕ → ListName → List ℕ → List (List ℕ)
    → Result Expectation ScheduleKind
listed_line packets d list word operands =
    and_then (λ listed. Ok (Listed d list listed)) (packets_line packets word operands)

-- `QUEUE of DEVICE empty`, or `QUEUE of DEVICE has PACKET ..`
abbrev pub queue_line : Named → List (List ℕ) → List ℕ → List ℕ → List ℕ → List (List ℕ)
    → Result Expectation ScheduleKind
queue_line names packets queue device word operands =
    and_then
    (λ d. and_then (λ q. listed_line packets d (Queue q) word operands) (queue_of names d queue))
    (device_of names.devices device)

-- the same of another list, behind its name
abbrev pub own_list : Named → List (List ℕ) → ListName → List ℕ → List ℕ → List ℕ
    → List (List ℕ) → Result Expectation ScheduleKind
own_list names packets list of device word operands =
    if bytes_eq of (codes "of")
    then and_then (λ d. listed_line packets d list word operands) (device_of names.devices device)
    else Err UnknownWord

abbrev pub own_list_line : Named → List (List ℕ) → ListName → List (List ℕ)
    → Result Expectation ScheduleKind
own_list_line names packets list (of ∷ device ∷ word ∷ operands) =
    own_list names packets list of device word operands
own_list_line names packets list _ = Err UnknownWord

-- what is said of what a device has, behind `of`
abbrev pub of_device : Named → List (List ℕ) → List ℕ → List ℕ → List ℕ → List (List ℕ)
    → Result Expectation ScheduleKind
of_device names packets name device word operands =
    if bytes_eq word (codes "is") then cell_line names name device operands else
    (if bytes_eq word (codes "free") then spin_line names name device word operands else
    (if bytes_eq word (codes "owned") then spin_line names name device word operands
    else queue_line names packets name device word operands))

abbrev pub of_line : Named → List (List ℕ) → List ℕ → List (List ℕ)
    → Result Expectation ScheduleKind
of_line names packets name (device ∷ word ∷ operands) =
    of_device names packets name device word operands
of_line names packets name _ = Err UnknownWord

-- `in QUEUE of DEVICE`
abbrev pub in_queue : Named → List ℕ → List ℕ → List ℕ → Result PacketState ScheduleKind
in_queue names queue of device =
    if bytes_eq of (codes "of")
    then and_then
    (λ d. and_then (λ q. Ok (In d (Queue q))) (queue_of names d queue))
    (device_of names.devices device)
    else Err UnknownWord

-- `in start list of DEVICE`, or `in device queue of DEVICE`
abbrev pub list_named : List ℕ → List ℕ → Result ListName ScheduleKind
list_named first second =
    if bytes_eq first (codes "start") && bytes_eq second (codes "list") then Ok StartList else
    (if bytes_eq first (codes "device") && bytes_eq second (codes "queue") then Ok DeviceQueue
    else Err UnknownWord)

abbrev pub in_list : Named → List ℕ → List ℕ → List ℕ → List ℕ → Result PacketState ScheduleKind
in_list names first second of device =
    if bytes_eq of (codes "of")
    then and_then
    (λ list. and_then (λ d. Ok (In d list)) (device_of names.devices device))
    (list_named first second)
    else Err UnknownWord

abbrev pub in_line : Named → List (List ℕ) → Result PacketState ScheduleKind
in_line names (queue ∷ of ∷ device ∷ []) = in_queue names queue of device
in_line names (first ∷ second ∷ of ∷ device ∷ []) = in_list names first second of device
in_line names _ = Err UnknownWord

-- `current on DEVICE`
abbrev pub current_line : Named → List (List ℕ) → Result PacketState ScheduleKind
current_line names (on ∷ device ∷ []) =
    if bytes_eq on (codes "on")
    then and_then (λ d. Ok (Current d)) (device_of names.devices device) else Err UnknownWord
current_line names _ = Err UnknownWord

-- `held by ROUTINE`
abbrev pub held_line : Named → List (List ℕ) → Result PacketState ScheduleKind
held_line names (by ∷ routine ∷ []) =
    if bytes_eq by (codes "by")
    then and_then (λ spot. Ok (Held spot.driver spot.routine)) (routine_of names routine)
    else Err UnknownWord
held_line names _ = Err UnknownWord
