-- What edits make of a driver set.
use Rattle.std.specs.Prelude.{ℕ, Bool, ◌≡◌, ◌+◌, ◌-◌, ◌||◌, List, [], ◌∷◌, ◌++◌}
use Rattle.std.specs.Prelude.{length, map, take, drop, Option, None, Some, nat_eq, nat_lt, nat_le}
use Rattle.std.specs.Prelude.{⊤, ◌⊎◌, option_and_then, option_map, slice_get, slice_set, if◌then◌else◌}
use Rattle.model.specs.declared.instr.Instr.{Instr}
use Rattle.model.specs.declared.instr.Instr.TheVariants.{JumpIfZero, JumpIfLess, Jump, Remove}
use Rattle.model.specs.declared.instr.Instr.TheVariants.{Disarm, IfCancel, Take, IfPending}
use Rattle.model.specs.declared.set.Device.{Device}
use Rattle.model.specs.declared.set.Driver.{Driver}
use Rattle.model.specs.declared.set.Queue.{Queue}
use Rattle.model.specs.declared.set.QueueName.{QueueName}
use Rattle.model.specs.declared.set.QueueName.TheVariants.{Declared, DeviceQueue}
use Rattle.model.specs.declared.set.Routine.{Routine}
use Rattle.model.specs.Set.{Set, label_of}
use Rattle.model.specs.Sound.{IsSound}
use Rattle.mend_changes.specs.declared.edit.Change.{Change}
use Rattle.mend_changes.specs.declared.edit.Change.TheVariants.{Insert, Delete, Replace, Move}
use Rattle.mend_changes.specs.declared.edit.Change.TheVariants.{Guard, Cancel, StartIo, Stack}
use Rattle.mend_changes.specs.declared.edit.Change.TheVariants.{Lower}
use Rattle.mend_changes.specs.declared.edit.Edit.{Edit}
use Rattle.mend_changes.specs.declared.edit.Landing.{Landing}
use Rattle.mend_changes.specs.declared.edit.Landing.TheVariants.{Kept, Taken}
use Rattle.mend_changes.specs.declared.shift.Shift.{Shift}
use Rattle.mend_changes.specs.declared.shift.Shift.TheVariants.{Opened, Closed, Moved}

-- a label behind an insertion: those of what stood there and behind it are one further, but that of
-- the place itself stays where the new instruction takes it. No label is above 65,535
abbrev pub stays : ℕ → Landing → ℕ → Bool
stays at Kept label = nat_lt label at
stays at Taken label = nat_le label at

abbrev pub opened : ℕ → Landing → ℕ → ℕ
opened at landing label =
    if stays at landing label || nat_eq label 65535 then label else label + 1

-- a label behind a deletion
abbrev pub closed : ℕ → ℕ → ℕ
closed at label = if nat_lt at label then label - 1 else label

abbrev pub shifted : Shift → ℕ → ℕ
shifted (Opened at landing) label = opened at landing label
shifted (Closed at) label = closed at label
shifted (Moved at to landing) label = opened (closed at to) landing (closed at label)

-- a jump that leads to another label
abbrev pub with_label : Instr → ℕ → Instr
with_label (JumpIfZero r label) new = JumpIfZero r new
with_label (JumpIfLess r q label) new = JumpIfLess r q new
with_label (Jump label) new = Jump new
with_label (Remove r q label) new = Remove r q new
with_label (Disarm r label) new = Disarm r new
with_label (IfCancel r label) new = IfCancel r new
with_label (Take r label) new = Take r new
with_label (IfPending r label) new = IfPending r new
with_label i new = i

abbrev pub shifted_by : Shift → Instr → Option ℕ → Instr
shifted_by shift i None = i
shifted_by shift i (Some label) = with_label i (shifted shift label)

abbrev pub relabelled : Shift → Instr → Instr
relabelled shift i = shifted_by shift i (label_of i)

-- instructions with their labels shifted
abbrev pub all_shifted : Shift → List Instr → List Instr
all_shifted shift code = map (relabelled shift) code

-- a routine's code with an instruction put before a position
abbrev pub inserted : ℕ → Instr → Landing → List Instr → List Instr
inserted at i landing code =
    all_shifted (Opened at landing) (take at code)
    ++ i ∷ all_shifted (Opened at landing) (drop at code)

-- with the one at a position taken out
abbrev pub deleted : ℕ → List Instr → List Instr
deleted at code =
    all_shifted (Closed at) (take at code) ++ all_shifted (Closed at) (drop (at + 1) code)

-- with the one at a position put before one behind it, or before one that isn't
abbrev pub put_later : Shift → ℕ → ℕ → Instr → List Instr → List Instr
put_later shift at to i code =
    all_shifted shift (take at code)
    ++ (all_shifted shift (take (to - (at + 1)) (drop (at + 1) code))
    ++ relabelled shift i ∷ all_shifted shift (drop to code))

abbrev pub put_earlier : Shift → ℕ → ℕ → Instr → List Instr → List Instr
put_earlier shift at to i code =
    all_shifted shift (take to code)
    ++ relabelled shift i ∷ (all_shifted shift (take (at - to) (drop to code))
    ++ all_shifted shift (drop (at + 1) code))

abbrev pub moved : ℕ → ℕ → Landing → Instr → List Instr → List Instr
moved at to landing i code =
    if nat_lt at to then put_later (Moved at to landing) at to i code
    else put_earlier (Moved at to landing) at to i code

abbrev pub moved_by : Option Instr → ℕ → ℕ → Landing → List Instr → Option (List Instr)
moved_by None at to landing code = None
moved_by (Some i) at to landing code =
    if nat_le to (length code) then Some (moved at to landing i code) else None

-- what a change makes of a routine's code, if it is one of code, at a place that is there
abbrev pub code_edited : List Instr → ℕ → Change → Option (List Instr)
code_edited code at (Insert i landing) =
    if nat_le at (length code) then Some (inserted at i landing code) else None
code_edited code at Delete = if nat_lt at (length code) then Some (deleted at code) else None
code_edited code at (Replace i) =
    if nat_lt at (length code) then Some (slice_set code at i) else None
code_edited code at (Move to landing) = moved_by (slice_get code at) at to landing code
code_edited code at (Guard q lock) = None
code_edited code at (Cancel name number) = None
code_edited code at (StartIo number) = None
code_edited code at (Stack device size) = None
code_edited code at (Lower device lower) = None

-- a routine with other code, and a driver whose routine has it
abbrev pub routine_edited : Driver → ℕ → ℕ → Change → Routine → Option Driver
routine_edited d number at change routine =
    option_map
    (λ code. record d { routines = slice_set d.routines number (record routine { code = code }) })
    (code_edited routine.code at change)

abbrev pub code_edited_in : Driver → ℕ → ℕ → Change → Option Driver
code_edited_in d number at change =
    option_and_then (λ routine. routine_edited d number at change routine)
    (slice_get d.routines number)

-- a driver whose queue of a number is another one
abbrev pub with_queue : Driver → ℕ → Queue → Driver
with_queue d q queue = record d { queues = slice_set d.queues q queue }

abbrev pub with_cancel : Driver → QueueName → ℕ → Option Driver
with_cancel d (Declared q) number =
    option_map (λ queue. with_queue d q (record queue { cancel = Some number }))
    (slice_get d.queues q)
with_cancel d DeviceQueue number = Some (record d { startio_cancel = Some number })

-- what an edit makes of its driver
abbrev pub driver_edited : Driver → ℕ → ℕ → Change → Option Driver
driver_edited d number at (Insert i landing) = code_edited_in d number at (Insert i landing)
driver_edited d number at Delete = code_edited_in d number at Delete
driver_edited d number at (Replace i) = code_edited_in d number at (Replace i)
driver_edited d number at (Move to landing) = code_edited_in d number at (Move to landing)
driver_edited d number at (Guard q lock) =
    option_map (λ queue. with_queue d q (record queue { guard = lock })) (slice_get d.queues q)
driver_edited d number at (Cancel name routine) = with_cancel d name routine
driver_edited d number at (StartIo routine) = Some (record d { startio = Some routine })
driver_edited d number at (Stack device size) = None
driver_edited d number at (Lower device lower) = None

abbrev pub edited_in_driver : Set → Edit → Option Set
edited_in_driver set e =
    option_map (λ d. record set { drivers = slice_set set.drivers e.driver d })
    (option_and_then (λ d. driver_edited d e.routine e.at e.change)
    (slice_get set.drivers e.driver))

-- a set whose device of a number is another one
abbrev pub with_device : Set → ℕ → Device → Set
with_device set number device = record set { devices = slice_set set.devices number device }

-- what an edit makes of a set, if it has a place there
abbrev pub edited_at : Set → Edit → Change → Option Set
edited_at set e (Insert i landing) = edited_in_driver set e
edited_at set e Delete = edited_in_driver set e
edited_at set e (Replace i) = edited_in_driver set e
edited_at set e (Move to landing) = edited_in_driver set e
edited_at set e (Guard q lock) = edited_in_driver set e
edited_at set e (Cancel name number) = edited_in_driver set e
edited_at set e (StartIo number) = edited_in_driver set e
edited_at set e (Stack number size) =
    option_map (λ device. with_device set number (record device { stack = size }))
    (slice_get set.devices number)
edited_at set e (Lower number lower) =
    option_map (λ device. with_device set number (record device { lower = Some lower }))
    (slice_get set.devices number)

abbrev pub edited : Set → Edit → Option Set
edited set e = edited_at set e e.change

-- that nothing is made, or nothing that is a driver set
abbrev pub IsNoSet : Option Set → Type 0
IsNoSet None = ⊤
IsNoSet (Some set) = IsSound set → ⊥

-- what edits make of a set, one after another
abbrev pub edited_by : Set → List Edit → Option Set
edited_by set [] = Some set
edited_by set (e ∷ es) = option_and_then (λ next. edited_by next es) (edited set e)

-- that one of them makes nothing, or nothing that is a driver set, of what those before it make
abbrev pub IsStopped : Set → List Edit → Type 0
IsStopped set [] = ⊥
IsStopped set (e ∷ es) =
    IsNoSet (edited set e) ⊎ ((next : Set) × (edited set e ≡ Some next) × IsStopped next es)

-- that each of them makes a driver set
abbrev pub EachMakes : Set → List Edit → Type 0
EachMakes set es = IsStopped set es → ⊥
