-- The local rule: what an instruction demands of the state before it, and the state after it. All
-- conditions of an instruction are weighed, and the one of the least number is the rule broken.
-- Each edition has its rule; where none is named, the second one's is meant, which is today's.
-- Static Driver Verifier has rules of the same names: DoubleCompletion, MarkIrpPending,
-- CancelSpinLock, SpinLock.
use Rattle.std.specs.Prelude.{ℕ, ◌||◌, ◌&&◌, ◌-◌, nat_le, not, Bool, true, false, List, [], ◌∷◌, Option, None, Some, Result, Ok, Err, is_some, option_and_then, replicate, slice_get, slice_index_or, slice_set, if◌then◌else◌}
use Rattle.std.specs.List.{list_any}
use Rattle.model.specs.declared.abs.Abs.{Abs}
use Rattle.model.specs.declared.abs.Duty.{Duty}
use Rattle.model.specs.declared.abs.Duty.TheVariants.{Fresh, Pending, Finished, GivenDown, NoDuty}
use Rattle.model.specs.declared.abs.Kind.{Kind}
use Rattle.model.specs.declared.abs.Kind.TheVariants.{Blank, Num, Lower, New, Own, Queued, View}
use Rattle.model.specs.declared.abs.Stage.TheVariants.{Armed, Cancelling, Listed}
use Rattle.model.specs.declared.abs.Outs.{Outs}
use Rattle.model.specs.declared.abs.Settled.{Settled}
use Rattle.model.specs.declared.abs.Settled.TheVariants.{Open, NeedMark, Settled as SettledMark}
use Rattle.model.specs.declared.abs.Rule.{Rule}
use Rattle.model.specs.declared.abs.Rule.TheVariants.{Malformed, Unreachable, StatesDiffer, WrongKind, DoubleCompletion, MarkIrpPending, CancelSpinLock, SpinLock, LockHeld, Level, Guard as GuardRule, CancelState, Dropped, Token, Sort as SortRule, Completion, StackTooSmall, NoLower, TooLong, Memory}
use Rattle.model.specs.declared.instr.Instr.{Instr}
use Rattle.model.specs.declared.instr.Instr.TheVariants.{Const, Move, Clear, Add, Subtract, JumpIfZero, JumpIfLess, Jump, Loop, End, Load, Store, LoadPaged, StorePaged, Get, Put, Mark, Acquire, Release, AcquireCancel, ReleaseCancel, Insert, Remove, Unlink, Arm, Disarm, IfCancel, Start, Take, Begin, Next, Dequeue, Pass, Call, Complete, IfPending, Ret}
use Rattle.model.specs.declared.instr.Return.{Return}
use Rattle.model.specs.declared.instr.Return.TheVariants.{WithStatus, Lower as LowerStatus, Continue, Stop, Void}
use Rattle.model.specs.declared.set.Driver.{Driver}
use Rattle.model.specs.declared.set.Guard.{Guard}
use Rattle.model.specs.declared.set.Guard.TheVariants.{DeviceLock, CancelLock}
use Rattle.model.specs.declared.set.QueueName.{QueueName}
use Rattle.model.specs.declared.set.QueueName.TheVariants.{Declared, DeviceQueue}
use Rattle.model.specs.declared.set.Sort.{Sort}
use Rattle.model.specs.declared.set.Sort.TheVariants.{Dispatch, StartIo, Dpc, Propagate, Hold, Cancel}
use Rattle.model.specs.declared.status.Status.{Status}
use Rattle.model.specs.declared.status.Status.TheVariants.{Success, Pending as PendingStatus, Busy, Unsuccessful, InvalidParameter, InvalidDeviceRequest, Cancelled}
use Rattle.model.specs.Edition.{Edition, First, Second}
use Rattle.model.specs.Kinds.{is_packet, is_view, is_new, is_kept, is_blank, is_lower, is_at, is_exchanged, names_list, needs_guard, kind_inserted, kind_removed, kind_disarmed, all_let_go, left_behind, duty_completed}
use Rattle.model.specs.Forwarding.{lacks_lower, is_too_small}
use Rattle.model.specs.declared.limits.TheConstants.{REGISTERS, SPIN_LOCKS}
use Rattle.model.specs.Set.{Set, Member, Flow, Onward, Branches, Jumps, Opens, Closes, Leaves, flow_of, cancel_routine_of, cancelled_from, only_one, cancels_for, has_cancel, guard_named, sort_of}

-- the state in which a routine is entered, if it may be: a dispatch routine may do anything with
-- the packet in its first register, a completion routine that lets the completion go on may look at
-- it, one that may hold it is lent it, a StartIo routine owns it and has the token of its device,
-- and a DPC routine is handed none. No lock is held, but in a cancel routine
abbrev pub entered_with : Kind → Duty → Settled → Bool → Abs
entered_with first duty carried token =
    record {
      kinds = first ∷ replicate (REGISTERS - 1) Blank;
      locks = replicate SPIN_LOCKS false;
      cancel = false;
      duty = duty;
      settled = carried;
      token = token;
    }

-- a cancel routine is handed a packet of the one list that names it, with the system cancel spin
-- lock held; one that not exactly one list names can't be entered
abbrev pub entry_of_cancel : Option QueueName → Option Abs
entry_of_cancel None = None
entry_of_cancel (Some name) =
    Some (record (entered_with (Queued name Cancelling) NoDuty SettledMark false) { cancel = true })

abbrev pub entry_of_sort : Sort → Option QueueName → Option Abs
entry_of_sort Dispatch name = Some (entered_with New Fresh SettledMark false)
entry_of_sort StartIo name = Some (entered_with Own NoDuty SettledMark true)
entry_of_sort Dpc name = Some (entered_with Blank NoDuty SettledMark false)
entry_of_sort Propagate name = Some (entered_with View NoDuty Open false)
entry_of_sort Hold name = Some (entered_with New Fresh SettledMark false)
entry_of_sort Cancel name = entry_of_cancel name

-- the one list whose cancel routine a routine is, if it is that of exactly one: in the first
-- edition the device queue had none
abbrev pub cancelled_queues : Option Driver → ℕ → List QueueName
cancelled_queues None number = []
cancelled_queues (Some d) number = cancelled_from d.queues 0 number

abbrev pub cancels_under : Edition → Set → ℕ → ℕ → Option QueueName
cancels_under First set driver number =
    only_one (cancelled_queues (slice_get set.drivers driver) number)
cancels_under Second set driver number = cancels_for set driver number

abbrev pub entry_under : Edition → Member → Option Abs
entry_under e m = entry_of_sort m.routine.sort (cancels_under e m.set m.driver m.number)

abbrev pub entry_state : Member → Option Abs
entry_state m = entry_under Second m

abbrev pub kind_of : Abs → ℕ → Kind
kind_of s r = slice_index_or s.kinds r Blank

abbrev pub with_kind : Abs → ℕ → Kind → Abs
with_kind s r kind = record s { kinds = slice_set s.kinds r kind }

-- the thread holds a spin lock of the device
abbrev pub is_held : Abs → ℕ → Bool
is_held s lock = slice_index_or s.locks lock false

abbrev pub with_lock : Abs → ℕ → Bool → Abs
with_lock s lock held = record s { locks = slice_set s.locks lock held }

abbrev pub with_cancel : Abs → Bool → Abs
with_cancel s held = record s { cancel = held }

-- it holds a lock that may guard lists, a spin lock of the device or the system cancel spin lock
abbrev pub holds_guard : Abs → Guard → Bool
holds_guard s (DeviceLock lock) = is_held s lock
holds_guard s CancelLock = s.cancel

abbrev pub with_held : Abs → Guard → Bool → Abs
with_held s (DeviceLock lock) held = with_lock s lock held
with_held s CancelLock held = with_cancel s held

-- it holds a spin lock at all, and a lock at all, the system cancel spin lock among them
abbrev pub holds_spin_lock : Abs → Bool
holds_spin_lock s = list_any (λ held. held) s.locks

abbrev pub holds_lock : Abs → Bool
holds_lock s = s.cancel || holds_spin_lock s

-- the rules in the order of their numbers
abbrev pub rule_number : Rule → ℕ
rule_number Malformed = 1
rule_number Unreachable = 2
rule_number StatesDiffer = 3
rule_number WrongKind = 4
rule_number DoubleCompletion = 5
rule_number MarkIrpPending = 6
rule_number CancelSpinLock = 7
rule_number SpinLock = 8
rule_number LockHeld = 9
rule_number Level = 10
rule_number GuardRule = 11
rule_number CancelState = 12
rule_number Dropped = 13
rule_number Token = 14
rule_number SortRule = 15
rule_number Completion = 16
rule_number StackTooSmall = 17
rule_number NoLower = 18
rule_number TooLong = 19
rule_number Memory = 20

-- the one of the least number, of two rules that are broken or not
abbrev pub least_of : Option Rule → Option Rule → Option Rule
least_of None other = other
least_of (Some rule) None = Some rule
least_of (Some rule) (Some other) = if nat_le (rule_number rule) (rule_number other) then Some rule
    else Some other

abbrev pub broken_if : Bool → Rule → Option Rule
broken_if b rule = if b then Some rule else None

abbrev pub unless : Bool → Rule → Option Rule
unless b rule = if b then None else Some rule

-- the packets that an instruction wants: which kinds it takes
pub record Wanted : Type 0 where
  pub new : Bool
  pub own : Bool
  pub view : Bool
  pub queued : Bool

-- whether a register has one of them
abbrev pub is_wanted : Wanted → Kind → Bool
is_wanted wanted Blank = false
is_wanted wanted Num = false
is_wanted wanted Lower = false
is_wanted wanted New = wanted.new
is_wanted wanted Own = wanted.own
is_wanted wanted (Queued name stage) = wanted.queued
is_wanted wanted View = wanted.view

-- which rule is broken by what is there where no wanted packet is. What is no packet is of a wrong
-- kind; a packet that stands in a list, or might be cancelled, breaks the rule on cancellation, as
-- one does that the routine has, where one that stands in a list is wanted; one that was marked
-- where an unmarked one is wanted, or the other way round, breaks the rule on pending marks; any
-- other breaks the rule on completion
abbrev pub missing : Wanted → Kind → Rule
missing wanted Blank = WrongKind
missing wanted Num = WrongKind
missing wanted Lower = WrongKind
missing wanted New = if wanted.queued then CancelState
    else if wanted.own then MarkIrpPending else Completion
missing wanted Own = if wanted.queued then CancelState
    else if wanted.new then MarkIrpPending else Completion
missing wanted (Queued name stage) = CancelState
missing wanted View = Completion

-- a packet of a wanted kind has to be there
abbrev pub demanded : Wanted → Kind → Option Rule
demanded wanted kind = unless (is_wanted wanted kind) (missing wanted kind)

abbrev pub any_packet : Wanted
any_packet = record { new = true; own = true; view = true; queued = true }

abbrev pub a_new_one : Wanted
a_new_one = record { new = true; own = false; view = false; queued = false }

abbrev pub one_handed_or_owned : Wanted
one_handed_or_owned = record { new = true; own = true; view = false; queued = false }

abbrev pub an_owned_one : Wanted
an_owned_one = record { new = false; own = true; view = false; queued = false }

abbrev pub one_to_mark : Wanted
one_to_mark = record { new = true; own = false; view = true; queued = false }

abbrev pub one_to_look_at : Wanted
one_to_look_at = record { new = false; own = false; view = true; queued = false }

abbrev pub a_listed_one : Wanted
a_listed_one = record { new = false; own = false; view = false; queued = true }

abbrev pub is_completion : Sort → Bool
is_completion Dispatch = false
is_completion StartIo = false
is_completion Dpc = false
is_completion Propagate = true
is_completion Hold = true
is_completion Cancel = false

abbrev pub is_pending : Status → Bool
is_pending PendingStatus = true
is_pending Success = false
is_pending Busy = false
is_pending Unsuccessful = false
is_pending InvalidParameter = false
is_pending InvalidDeviceRequest = false
is_pending Cancelled = false

-- a register that may be written over
abbrev pub free_kind : Kind → Option Rule
free_kind kind = broken_if (is_packet kind) Dropped

-- an operand that has to be a number
abbrev pub number_kind : Kind → Option Rule
number_kind Blank = Some WrongKind
number_kind Num = None
number_kind Lower = Some WrongKind
number_kind New = Some WrongKind
number_kind Own = Some WrongKind
number_kind (Queued name stage) = Some WrongKind
number_kind View = Some WrongKind

-- paged cells may be touched below DISPATCH_LEVEL alone: dispatch routines run at PASSIVE_LEVEL
-- while their thread holds no lock
abbrev pub level_fault : Abs → Sort → Option Rule
level_fault s Dispatch = broken_if (holds_lock s) Level
level_fault s StartIo = Some Level
level_fault s Dpc = Some Level
level_fault s Propagate = Some Level
level_fault s Hold = Some Level
level_fault s Cancel = Some Level

-- `mark` wants a packet that the routine was handed, or in a completion routine one whose mark has
-- to be carried up
abbrev pub needs_mark : Settled → Bool
needs_mark Open = false
needs_mark NeedMark = true
needs_mark SettledMark = false

abbrev pub mark_fault : Settled → Kind → Option Rule
mark_fault carried kind =
    least_of (demanded one_to_mark kind)
    (broken_if (is_view kind && not (needs_mark carried)) Completion)

-- `ifpending` wants a packet on its way up that wasn't looked at
abbrev pub is_open : Settled → Bool
is_open Open = true
is_open NeedMark = false
is_open SettledMark = false

abbrev pub look_fault : Settled → Kind → Option Rule
look_fault carried kind =
    least_of (demanded one_to_look_at kind)
    (broken_if (is_view kind && not (is_open carried)) Completion)

abbrev pub complete_kind : Kind → Option Rule
complete_kind kind = if is_blank kind then Some DoubleCompletion
    else demanded one_handed_or_owned kind

-- a completion routine doesn't complete
abbrev pub completion_sort_fault : Sort → Option Rule
completion_sort_fault sort = broken_if (is_completion sort) Completion

-- only a dispatch routine forwards
abbrev pub forward_sort_fault : Sort → Option Rule
forward_sort_fault Dispatch = None
forward_sort_fault StartIo = Some SortRule
forward_sort_fault Dpc = Some SortRule
forward_sort_fault Propagate = Some Completion
forward_sort_fault Hold = Some Completion
forward_sort_fault Cancel = Some SortRule

-- a packet is forwarded by a dispatch routine, while no lock is held, from devices that all have a
-- lower one, and stack locations for it and so many more
abbrev pub forward_fault : Abs → Sort → Set → ℕ → ℕ → Option Rule
forward_fault s sort set driver locations =
    least_of (broken_if (holds_lock s) LockHeld)
    (least_of (forward_sort_fault sort)
    (least_of (broken_if (is_too_small set driver locations) StackTooSmall)
    (broken_if (lacks_lower set driver) NoLower)))

-- a packet that wasn't marked isn't sent down with a completion routine that may hold it: what the
-- lower driver returned would be returned for it while it is held
abbrev pub is_hold : Sort → Bool
is_hold Dispatch = false
is_hold StartIo = false
is_hold Dpc = false
is_hold Propagate = false
is_hold Hold = true
is_hold Cancel = false

abbrev pub is_held_by : Set → ℕ → Option ℕ → Bool
is_held_by set driver None = false
is_held_by set driver (Some f) = is_hold (sort_of set driver f)

abbrev pub hold_fault : Kind → Set → ℕ → Option ℕ → Option Rule
hold_fault kind set driver f =
    broken_if (is_new kind && is_held_by set driver f) Completion

-- a status is returned as the duty to the packet says: STATUS_PENDING exactly where it was marked,
-- what the lower driver returned exactly where it was given down without a mark
abbrev pub status_fault : Duty → Status → Option Rule
status_fault Fresh status = broken_if (is_pending status) MarkIrpPending
status_fault Pending status = broken_if (not (is_pending status)) MarkIrpPending
status_fault Finished status = broken_if (is_pending status) MarkIrpPending
status_fault GivenDown status = Some MarkIrpPending
status_fault NoDuty status = broken_if (is_pending status) MarkIrpPending

abbrev pub is_given_down : Duty → Bool
is_given_down Fresh = false
is_given_down Pending = false
is_given_down Finished = false
is_given_down GivenDown = true
is_given_down NoDuty = false

abbrev pub duty_fault : Abs → Return → Option Rule
duty_fault s (WithStatus status) = status_fault s.duty status
duty_fault s (LowerStatus r) =
    least_of (broken_if (not (is_lower (kind_of s r))) WrongKind)
    (broken_if (not (is_given_down s.duty)) MarkIrpPending)
duty_fault s Continue = None
duty_fault s Stop = None
duty_fault s Void = None

-- each sort has its forms of return
abbrev pub form_fault : Sort → Return → Option Rule
form_fault Dispatch (WithStatus status) = None
form_fault Dispatch (LowerStatus r) = None
form_fault Dispatch Continue = Some SortRule
form_fault Dispatch Stop = Some SortRule
form_fault Dispatch Void = Some SortRule
form_fault StartIo (WithStatus status) = Some SortRule
form_fault StartIo (LowerStatus r) = Some SortRule
form_fault StartIo Continue = Some SortRule
form_fault StartIo Stop = Some SortRule
form_fault StartIo Void = None
form_fault Dpc (WithStatus status) = Some SortRule
form_fault Dpc (LowerStatus r) = Some SortRule
form_fault Dpc Continue = Some SortRule
form_fault Dpc Stop = Some SortRule
form_fault Dpc Void = None
form_fault Propagate (WithStatus status) = Some SortRule
form_fault Propagate (LowerStatus r) = Some SortRule
form_fault Propagate Continue = None
form_fault Propagate Stop = Some SortRule
form_fault Propagate Void = Some SortRule
form_fault Hold (WithStatus status) = Some SortRule
form_fault Hold (LowerStatus r) = Some SortRule
form_fault Hold Continue = None
form_fault Hold Stop = None
form_fault Hold Void = Some SortRule
form_fault Cancel (WithStatus status) = Some SortRule
form_fault Cancel (LowerStatus r) = Some SortRule
form_fault Cancel Continue = Some SortRule
form_fault Cancel Stop = Some SortRule
form_fault Cancel Void = None

-- a completion routine has carried the mark up
abbrev pub is_settled : Settled → Bool
is_settled Open = false
is_settled NeedMark = false
is_settled SettledMark = true

-- one that was lent the packet lets its completion go on where it has done nothing with it, and
-- stops it where it has taken the packet back
abbrev pub is_fresh : Duty → Bool
is_fresh Fresh = true
is_fresh Pending = false
is_fresh Finished = false
is_fresh GivenDown = false
is_fresh NoDuty = false

abbrev pub is_taken_back : Duty → Bool
is_taken_back Fresh = false
is_taken_back Pending = true
is_taken_back Finished = false
is_taken_back GivenDown = false
is_taken_back NoDuty = false

abbrev pub lent_fault : Duty → Return → Option Rule
lent_fault duty (WithStatus status) = None
lent_fault duty (LowerStatus r) = None
lent_fault duty Continue = unless (is_fresh duty) Completion
lent_fault duty Stop = unless (is_taken_back duty) Completion
lent_fault duty Void = None

abbrev pub settled_fault : Sort → Abs → Return → Option Rule
settled_fault Dispatch s form = None
settled_fault StartIo s form = None
settled_fault Dpc s form = None
settled_fault Propagate s form = broken_if (not (is_settled s.settled)) Completion
settled_fault Hold s form = lent_fault s.duty form
settled_fault Cancel s form = None

-- a routine that was lent a packet gives it back where it lets the completion go on
abbrev pub gives_back : Sort → Return → Bool
gives_back Dispatch form = false
gives_back StartIo form = false
gives_back Dpc form = false
gives_back Propagate form = false
gives_back Hold (WithStatus status) = false
gives_back Hold (LowerStatus r) = false
gives_back Hold Continue = true
gives_back Hold Stop = false
gives_back Hold Void = false
gives_back Cancel form = false

-- no packet is left in a register, but for one on its way up, and one that is given back
abbrev pub is_dropped : Bool → Kind → Bool
is_dropped back kind = is_kept kind && not (back && is_new kind)

abbrev pub left_packet : Abs → Bool → Option Rule
left_packet s back = broken_if (list_any (is_dropped back) s.kinds) Dropped

-- no lock is kept, no packet, and no token
abbrev pub kept_fault : Abs → Bool → Option Rule
kept_fault s back =
    least_of (broken_if s.cancel CancelSpinLock)
    (least_of (broken_if (holds_spin_lock s) SpinLock)
    (least_of (left_packet s back) (broken_if s.token Token)))

abbrev pub return_fault : Abs → Return → Sort → Option Rule
return_fault s form sort =
    least_of (duty_fault s form)
    (least_of (kept_fault s (gives_back sort form))
    (least_of (form_fault sort form) (settled_fault sort s form)))

-- a packet isn't completed with STATUS_PENDING, nor while a lock is held, nor in a completion
-- routine
abbrev pub completion_fault : Abs → Status → Sort → Option Rule
completion_fault s status sort =
    least_of (broken_if (is_pending status) MarkIrpPending)
    (least_of (broken_if (holds_lock s) LockHeld) (completion_sort_fault sort))

-- a list is touched while its guard is held
abbrev pub is_guarded : Abs → Option Guard → Bool
is_guarded s None = false
is_guarded s (Some guard) = holds_guard s guard

abbrev pub guard_fault : Abs → Set → ℕ → QueueName → Option Rule
guard_fault s set driver name = unless (is_guarded s (guard_named set driver name)) GuardRule

-- a packet of a list has to be there, in a state that fits the instruction
abbrev pub queued_kind : Bool → Kind → Option Rule
queued_kind fits kind =
    unless (is_wanted a_listed_one kind && fits) (missing a_listed_one kind)

abbrev pub unlink_kind : QueueName → Kind → Option Rule
unlink_kind name kind = queued_kind (is_at Listed name kind || is_at Cancelling name kind) kind

abbrev pub names_fault : Abs → QueueName → Option Rule
names_fault s name = broken_if (list_any (names_list name) s.kinds) CancelState

-- a lock is acquired while it isn't held, and released while it is, when no register needs it. The
-- system cancel spin lock has a rule of its own
abbrev pub rule_of_lock : Guard → Rule
rule_of_lock (DeviceLock lock) = SpinLock
rule_of_lock CancelLock = CancelSpinLock

abbrev pub acquire_fault : Abs → Guard → Option Rule
acquire_fault s lock = broken_if (holds_guard s lock) (rule_of_lock lock)

abbrev pub release_fault : Abs → Set → ℕ → Guard → Option Rule
release_fault s set driver lock =
    least_of (broken_if (not (holds_guard s lock)) (rule_of_lock lock))
    (broken_if (list_any (needs_guard set driver lock) s.kinds) GuardRule)

-- a packet is started where the driver has a StartIo routine
abbrev pub has_startio : Set → ℕ → Bool
has_startio set driver =
    is_some (option_and_then (λ d. d.startio) (slice_get set.drivers driver))

-- where packets of the device queue have a cancel routine, their guard is held while one may be put
-- into it, or the first one is started; in the first edition they had none
abbrev pub waiting_fault : Abs → Set → ℕ → Option Rule
waiting_fault s set driver =
    if has_cancel set driver DeviceQueue then guard_fault s set driver DeviceQueue else None

abbrev pub waiting_fault_under : Edition → Abs → Set → ℕ → Option Rule
waiting_fault_under First s set driver = None
waiting_fault_under Second s set driver = waiting_fault s set driver

-- the system cancel spin lock is released; in the first edition it guarded no list
abbrev pub cancel_fault_under : Edition → Abs → Set → ℕ → Option Rule
cancel_fault_under First s set driver = broken_if (not s.cancel) CancelSpinLock
cancel_fault_under Second s set driver = release_fault s set driver CancelLock

-- the current packet is taken in a DPC routine, which gets the token with it
abbrev pub is_dpc : Sort → Bool
is_dpc Dispatch = false
is_dpc StartIo = false
is_dpc Dpc = true
is_dpc Propagate = false
is_dpc Hold = false
is_dpc Cancel = false

abbrev pub take_fault : Abs → Sort → Option Rule
take_fault s sort = least_of (broken_if s.token Token) (unless (is_dpc sort) SortRule)

-- the least rule that an instruction of a routine of a sort, of a driver of a set, breaks in a
-- state
abbrev pub refuses_under : Edition → Abs → Instr → Sort → Set → ℕ → Option Rule
refuses_under e s (Const r n) sort set driver = free_kind (kind_of s r)
refuses_under e s (Move r q) sort set driver = free_kind (kind_of s r)
refuses_under e s (Clear r) sort set driver = free_kind (kind_of s r)
refuses_under e s (Add r q) sort set driver =
    least_of (number_kind (kind_of s r)) (number_kind (kind_of s q))
refuses_under e s (Subtract r q) sort set driver =
    least_of (number_kind (kind_of s r)) (number_kind (kind_of s q))
refuses_under e s (JumpIfZero r label) sort set driver = number_kind (kind_of s r)
refuses_under e s (JumpIfLess r q label) sort set driver =
    least_of (number_kind (kind_of s r)) (number_kind (kind_of s q))
refuses_under e s (Jump label) sort set driver = None
refuses_under e s (Loop turns) sort set driver = None
refuses_under e s End sort set driver = None
refuses_under e s (Load r c) sort set driver = free_kind (kind_of s r)
refuses_under e s (Store c r) sort set driver = number_kind (kind_of s r)
refuses_under e s (LoadPaged r c) sort set driver =
    least_of (level_fault s sort) (free_kind (kind_of s r))
refuses_under e s (StorePaged c r) sort set driver =
    least_of (number_kind (kind_of s r)) (level_fault s sort)
refuses_under e s (Get r q field) sort set driver =
    least_of (demanded any_packet (kind_of s q)) (free_kind (kind_of s r))
refuses_under e s (Put q r) sort set driver =
    least_of (demanded any_packet (kind_of s q)) (number_kind (kind_of s r))
refuses_under e s (Mark r) sort set driver = mark_fault s.settled (kind_of s r)
refuses_under e s (Acquire lock) sort set driver = acquire_fault s (DeviceLock lock)
refuses_under e s (Release lock) sort set driver = release_fault s set driver (DeviceLock lock)
refuses_under e s AcquireCancel sort set driver = acquire_fault s CancelLock
refuses_under e s ReleaseCancel sort set driver = cancel_fault_under e s set driver
refuses_under e s (Insert r q) sort set driver =
    least_of (demanded an_owned_one (kind_of s r)) (guard_fault s set driver (Declared q))
refuses_under e s (Remove r q label) sort set driver =
    least_of (guard_fault s set driver (Declared q))
    (least_of (free_kind (kind_of s r)) (names_fault s (Declared q)))
refuses_under e s (Unlink r q) sort set driver =
    least_of (unlink_kind (Declared q) (kind_of s r)) (guard_fault s set driver (Declared q))
refuses_under e s (Arm r q) sort set driver =
    least_of (queued_kind (is_at Listed (Declared q) (kind_of s r)) (kind_of s r))
    (guard_fault s set driver (Declared q))
refuses_under e s (Disarm r label) sort set driver =
    queued_kind (is_exchanged (kind_of s r)) (kind_of s r)
refuses_under e s (IfCancel r label) sort set driver = demanded any_packet (kind_of s r)
refuses_under e s (Start r) sort set driver =
    least_of (demanded an_owned_one (kind_of s r))
    (least_of (waiting_fault_under e s set driver) (unless (has_startio set driver) SortRule))
refuses_under e s (Take r label) sort set driver =
    least_of (take_fault s sort) (free_kind (kind_of s r))
refuses_under e s (Begin r) sort set driver =
    least_of (demanded an_owned_one (kind_of s r)) (unless s.token Token)
refuses_under e s Next sort set driver =
    least_of (waiting_fault_under e s set driver) (unless s.token Token)
refuses_under e s (Dequeue r) sort set driver =
    least_of (queued_kind (is_at Cancelling DeviceQueue (kind_of s r)) (kind_of s r))
    (least_of (guard_fault s set driver DeviceQueue)
    (unless (has_cancel set driver DeviceQueue) SortRule))
refuses_under e s (Pass r) sort set driver =
    least_of (demanded a_new_one (kind_of s r)) (forward_fault s sort set driver 0)
refuses_under e s (Call r f) sort set driver =
    least_of (demanded one_handed_or_owned (kind_of s r))
    (least_of (forward_fault s sort set driver 1) (hold_fault (kind_of s r) set driver f))
refuses_under e s (Complete r status) sort set driver =
    least_of (complete_kind (kind_of s r)) (completion_fault s status sort)
refuses_under e s (IfPending r label) sort set driver = look_fault s.settled (kind_of s r)
refuses_under e s (Ret form) sort set driver = return_fault s form sort

abbrev pub refuses : Abs → Instr → Sort → Set → ℕ → Option Rule
refuses s i sort set driver = refuses_under Second s i sort set driver

-- a mark: the routine owns the packet, and owes STATUS_PENDING; a completion routine has carried it
-- up. Of other kinds nothing is said here and below, since the instruction breaks a rule
abbrev pub marked : Abs → ℕ → Kind → Abs
marked s r Blank = s
marked s r Num = s
marked s r Lower = s
marked s r New = record (with_kind s r Own) { duty = Pending }
marked s r Own = s
marked s r (Queued name stage) = s
marked s r View = record s { settled = SettledMark }

-- a packet is given to the lower driver: one that wasn't marked leaves its status in the register
abbrev pub given_down : Abs → ℕ → Kind → Abs
given_down s r Blank = s
given_down s r Num = s
given_down s r Lower = s
given_down s r New = record (with_kind s r Lower) { duty = GivenDown }
given_down s r Own = with_kind s r Blank
given_down s r (Queued name stage) = s
given_down s r View = s

abbrev pub moved : Abs → ℕ → ℕ → Abs
moved s r q = with_kind (with_kind s r (kind_of s q)) q (left_behind (kind_of s q))

abbrev pub released : Abs → Set → ℕ → Guard → Abs
released s set driver lock =
    record (with_held s lock false) { kinds = all_let_go set driver lock s.kinds }

abbrev pub cancel_released_under : Edition → Set → ℕ → Abs → Abs
cancel_released_under First set driver s = with_cancel s false
cancel_released_under Second set driver s = released s set driver CancelLock

-- the state at the next position after an instruction that breaks no rule
abbrev pub handed_under : Edition → Set → ℕ → Abs → Instr → Abs
handed_under e set driver s (Const r n) = with_kind s r Num
handed_under e set driver s (Move r q) = moved s r q
handed_under e set driver s (Clear r) = with_kind s r Blank
handed_under e set driver s (Add r q) = s
handed_under e set driver s (Subtract r q) = s
handed_under e set driver s (JumpIfZero r label) = s
handed_under e set driver s (JumpIfLess r q label) = s
handed_under e set driver s (Jump label) = s
handed_under e set driver s (Loop turns) = s
handed_under e set driver s End = s
handed_under e set driver s (Load r c) = with_kind s r Num
handed_under e set driver s (Store c r) = s
handed_under e set driver s (LoadPaged r c) = with_kind s r Num
handed_under e set driver s (StorePaged c r) = s
handed_under e set driver s (Get r q field) = with_kind s r Num
handed_under e set driver s (Put q r) = s
handed_under e set driver s (Mark r) = marked s r (kind_of s r)
handed_under e set driver s (Acquire lock) = with_held s (DeviceLock lock) true
handed_under e set driver s (Release lock) = released s set driver (DeviceLock lock)
handed_under e set driver s AcquireCancel = with_held s CancelLock true
handed_under e set driver s ReleaseCancel = cancel_released_under e set driver s
handed_under e set driver s (Insert r q) = with_kind s r
    (kind_inserted (cancel_routine_of set driver q) (Declared q))
handed_under e set driver s (Remove r q label) = with_kind s r
    (kind_removed (cancel_routine_of set driver q) (Declared q))
handed_under e set driver s (Unlink r q) = with_kind s r Own
handed_under e set driver s (Arm r q) = with_kind s r (Queued (Declared q) Armed)
handed_under e set driver s (Disarm r label) = with_kind s r (kind_disarmed (kind_of s r))
handed_under e set driver s (IfCancel r label) = s
handed_under e set driver s (Start r) = with_kind s r Blank
handed_under e set driver s (Take r label) = record (with_kind s r Own) { token = true }
handed_under e set driver s (Begin r) = record (with_kind s r Blank) { token = false }
handed_under e set driver s Next = record s { token = false }
handed_under e set driver s (Dequeue r) = with_kind s r Own
handed_under e set driver s (Pass r) = given_down s r (kind_of s r)
handed_under e set driver s (Call r f) = given_down s r (kind_of s r)
handed_under e set driver s (Complete r status) =
    record (with_kind s r Blank) { duty = duty_completed (kind_of s r) s.duty }
handed_under e set driver s (IfPending r label) = record s { settled = SettledMark }
handed_under e set driver s (Ret form) = s

abbrev pub handed : Set → ℕ → Abs → Instr → Abs
handed set driver s i = handed_under Second set driver s i

-- and at its label, if it has one
abbrev pub handed_at_label : Abs → Instr → Abs
handed_at_label s (Const r n) = s
handed_at_label s (Move r q) = s
handed_at_label s (Clear r) = s
handed_at_label s (Add r q) = s
handed_at_label s (Subtract r q) = s
handed_at_label s (JumpIfZero r label) = s
handed_at_label s (JumpIfLess r q label) = s
handed_at_label s (Jump label) = s
handed_at_label s (Loop turns) = s
handed_at_label s End = s
handed_at_label s (Load r c) = s
handed_at_label s (Store c r) = s
handed_at_label s (LoadPaged r c) = s
handed_at_label s (StorePaged c r) = s
handed_at_label s (Get r q field) = s
handed_at_label s (Put q r) = s
handed_at_label s (Mark r) = s
handed_at_label s (Acquire lock) = s
handed_at_label s (Release lock) = s
handed_at_label s AcquireCancel = s
handed_at_label s ReleaseCancel = s
handed_at_label s (Insert r q) = s
handed_at_label s (Remove r q label) = with_kind s r Blank
handed_at_label s (Unlink r q) = s
handed_at_label s (Arm r q) = s
handed_at_label s (Disarm r label) = with_kind s r Blank
handed_at_label s (IfCancel r label) = s
handed_at_label s (Start r) = s
handed_at_label s (Take r label) = with_kind s r Blank
handed_at_label s (Begin r) = s
handed_at_label s Next = s
handed_at_label s (Dequeue r) = s
handed_at_label s (Pass r) = s
handed_at_label s (Call r f) = s
handed_at_label s (Complete r status) = s
handed_at_label s (IfPending r label) = record s { settled = NeedMark }
handed_at_label s (Ret form) = s

-- the states that it hands on, by where it leads; what opens or closes a loop goes to the next
-- position
abbrev pub outs_by : Flow → Abs → Abs → Outs
outs_by Onward next jump = record { next = Some next; jump = None }
outs_by (Branches label) next jump = record { next = Some next; jump = Some jump }
outs_by (Jumps label) next jump = record { next = None; jump = Some jump }
outs_by (Opens turns) next jump = record { next = Some next; jump = None }
outs_by Closes next jump = record { next = Some next; jump = None }
outs_by Leaves next jump = record { next = None; jump = None }

abbrev pub outs_under : Edition → Set → ℕ → Abs → Instr → Outs
outs_under e set driver s i =
    outs_by (flow_of i) (handed_under e set driver s i) (handed_at_label s i)

abbrev pub outs : Set → ℕ → Abs → Instr → Outs
outs set driver s i = outs_under Second set driver s i

abbrev pub rule_or : Option Rule → Outs → Result Outs Rule
rule_or None o = Ok o
rule_or (Some rule) o = Err rule

-- the local rule; that a loop's end is reached in the state of its start is weighed for the whole
-- routine
abbrev pub local_rule_under : Edition → Abs → Instr → Sort → Set → ℕ → Result Outs Rule
local_rule_under e s i sort set driver =
    rule_or (refuses_under e s i sort set driver) (outs_under e set driver s i)

abbrev pub local_rule : Abs → Instr → Sort → Set → ℕ → Result Outs Rule
local_rule s i sort set driver = local_rule_under Second s i sort set driver
