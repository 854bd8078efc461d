-- What the kind of a register says by itself: what the register may be used for.
use Rattle.std.specs.Prelude.{ℕ, ◌||◌, ◌&&◌, nat_eq, List, [], not, Bool, true, false, ◌∷◌, Option, None, Some, if◌then◌else◌}
use Rattle.model.specs.declared.abs.Duty.{Duty}
use Rattle.model.specs.declared.abs.Duty.TheVariants.{Finished}
use Rattle.model.specs.declared.abs.Kind.{Kind}
use Rattle.model.specs.declared.abs.Kind.TheVariants.{Blank, Num, Lower, New, Own, Queued, View}
use Rattle.model.specs.declared.abs.Stage.{Stage}
use Rattle.model.specs.declared.abs.Stage.TheVariants.{Listed, Armed, Taken, Cancelling}
use Rattle.model.specs.declared.set.Guard.{Guard}
use Rattle.model.specs.declared.set.Guard.TheVariants.{DeviceLock, CancelLock}
use Rattle.model.specs.declared.set.QueueName.{QueueName}
use Rattle.model.specs.declared.set.QueueName.TheVariants.{Declared, DeviceQueue}
use Rattle.model.specs.Set.{Set, guard_named}

-- a packet in a register
abbrev pub is_packet : Kind → Bool
is_packet Blank = false
is_packet Num = false
is_packet Lower = false
is_packet New = true
is_packet Own = true
is_packet (Queued name stage) = true
is_packet View = true

abbrev pub is_view : Kind → Bool
is_view Blank = false
is_view Num = false
is_view Lower = false
is_view New = false
is_view Own = false
is_view (Queued name stage) = false
is_view View = true

-- one that the routine has done nothing with
abbrev pub is_new : Kind → Bool
is_new Blank = false
is_new Num = false
is_new Lower = false
is_new New = true
is_new Own = false
is_new (Queued name stage) = false
is_new View = false

-- a packet that a routine may not leave behind in a register: any but one on its way up
abbrev pub is_kept : Kind → Bool
is_kept kind = is_packet kind && not (is_view kind)

-- a packet of a list which IoCancelIrp may take, or has taken: the exchange of its cancel routine
-- tells whose it is. In the other stages it is the routine's own
abbrev pub is_claim : Stage → Bool
is_claim Listed = false
is_claim Armed = true
is_claim Taken = true
is_claim Cancelling = false

-- a packet that a routine has the right to
abbrev pub is_right : Kind → Bool
is_right Blank = false
is_right Num = false
is_right Lower = false
is_right New = true
is_right Own = true
is_right (Queued name stage) = not (is_claim stage)
is_right View = false

-- `complete` wants a packet that the routine was handed or owns; where the register is blank, it
-- was completed or handed on before
abbrev pub is_blank : Kind → Bool
is_blank Blank = true
is_blank Num = false
is_blank Lower = false
is_blank New = false
is_blank Own = false
is_blank (Queued name stage) = false
is_blank View = false

abbrev pub is_lower : Kind → Bool
is_lower Blank = false
is_lower Num = false
is_lower Lower = true
is_lower New = false
is_lower Own = false
is_lower (Queued name stage) = false
is_lower View = false

-- the same list
abbrev pub is_name : QueueName → QueueName → Bool
is_name (Declared p) (Declared q) = nat_eq p q
is_name (Declared p) DeviceQueue = false
is_name DeviceQueue (Declared q) = false
is_name DeviceQueue DeviceQueue = true

-- the same stage
abbrev pub stage_number : Stage → ℕ
stage_number Listed = 0
stage_number Armed = 1
stage_number Taken = 2
stage_number Cancelling = 3

abbrev pub is_stage : Stage → Stage → Bool
is_stage one other = nat_eq (stage_number one) (stage_number other)

-- a packet of a list at a stage
abbrev pub is_at : Stage → QueueName → Kind → Bool
is_at stage name Blank = false
is_at stage name Num = false
is_at stage name Lower = false
is_at stage name New = false
is_at stage name Own = false
is_at stage name (Queued other at) = is_stage at stage && is_name other name
is_at stage name View = false

-- `disarm` wants a claim
abbrev pub is_exchanged : Kind → Bool
is_exchanged Blank = false
is_exchanged Num = false
is_exchanged Lower = false
is_exchanged New = false
is_exchanged Own = false
is_exchanged (Queued name stage) = is_claim stage
is_exchanged View = false

-- no packet is removed from a list while a register names one that is or was to be cancelled there:
-- it could be the same
abbrev pub names_list : QueueName → Kind → Bool
names_list name kind =
    is_at Listed name kind || (is_at Armed name kind || is_at Cancelling name kind)

-- the same lock
abbrev pub is_same_lock : Guard → Guard → Bool
is_same_lock (DeviceLock one) (DeviceLock other) = nat_eq one other
is_same_lock (DeviceLock one) CancelLock = false
is_same_lock CancelLock (DeviceLock other) = false
is_same_lock CancelLock CancelLock = true

-- the lock guards a list
abbrev pub is_guard : Option Guard → Guard → Bool
is_guard None lock = false
is_guard (Some guard) lock = is_same_lock guard lock

-- a register needs the guard of its list that holds a packet there which no cancel routine can be
-- called for, or one that was taken off it. A packet of the device queue that IoCancelIrp handed to
-- its cancel routine is in that queue until it is taken off
abbrev pub stays_under_guard : Stage → QueueName → Bool
stays_under_guard Listed name = true
stays_under_guard Armed name = false
stays_under_guard Taken name = true
stays_under_guard Cancelling (Declared q) = false
stays_under_guard Cancelling DeviceQueue = true

abbrev pub needs_guard : Set → ℕ → Guard → Kind → Bool
needs_guard set driver lock Blank = false
needs_guard set driver lock Num = false
needs_guard set driver lock Lower = false
needs_guard set driver lock New = false
needs_guard set driver lock Own = false
needs_guard set driver lock (Queued name stage) =
    stays_under_guard stage name && is_guard (guard_named set driver name) lock
needs_guard set driver lock View = false

-- a completion ends the duty to a packet that wasn't marked
abbrev pub duty_completed : Kind → Duty → Duty
duty_completed Blank duty = duty
duty_completed Num duty = duty
duty_completed Lower duty = duty
duty_completed New duty = Finished
duty_completed Own duty = duty
duty_completed (Queued name stage) duty = duty
duty_completed View duty = duty

-- what is moved away leaves its register blank, unless it is a number
abbrev pub left_behind : Kind → Kind
left_behind Blank = Blank
left_behind Num = Num
left_behind Lower = Blank
left_behind New = Blank
left_behind Own = Blank
left_behind (Queued name stage) = Blank
left_behind View = Blank

-- a packet that is put into a queue with a cancel routine stays the routine's own while it holds
-- the guard; one that is taken off may be cancelled until its cancel routine is exchanged
abbrev pub kind_inserted : Option ℕ → QueueName → Kind
kind_inserted None name = Blank
kind_inserted (Some cancel) name = Queued name Listed

abbrev pub kind_removed : Option ℕ → QueueName → Kind
kind_removed None name = Own
kind_removed (Some cancel) name = Queued name Taken

-- the cancel routine was set, so that IoCancelIrp won't call it any more. Of other kinds nothing is
-- said, since the instruction breaks a rule
abbrev pub kind_disarmed : Kind → Kind
kind_disarmed Blank = Blank
kind_disarmed Num = Num
kind_disarmed Lower = Lower
kind_disarmed New = New
kind_disarmed Own = Own
kind_disarmed (Queued name Listed) = Queued name Listed
kind_disarmed (Queued name Armed) = Queued name Listed
kind_disarmed (Queued name Taken) = Own
kind_disarmed (Queued name Cancelling) = Queued name Cancelling
kind_disarmed View = View

-- once the guard is released, a packet whose cancel routine is set belongs to whoever comes first
abbrev pub let_go : Set → ℕ → Guard → Kind → Kind
let_go set driver lock Blank = Blank
let_go set driver lock Num = Num
let_go set driver lock Lower = Lower
let_go set driver lock New = New
let_go set driver lock Own = Own
let_go set driver lock (Queued name stage) =
    if is_stage stage Armed && is_guard (guard_named set driver name) lock then Blank
    else Queued name stage
let_go set driver lock View = View

abbrev pub all_let_go : Set → ℕ → Guard → List Kind → List Kind
all_let_go set driver lock [] = []
all_let_go set driver lock (kind ∷ kinds) =
    let_go set driver lock kind ∷ all_let_go set driver lock kinds
