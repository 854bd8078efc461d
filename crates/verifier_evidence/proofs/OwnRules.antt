-- The rules that an instruction can break by itself: none of them is about what leads to it, the
-- routine's length or memory.
use Rattle.std.proofs.Common.{◌&&◌, ◌≡◌, ℕ, Bool, true, false, Option, None, Some, refl}
use Rattle.std.specs.Prelude.{if◌then◌else◌, nat_le, not}
use Rattle.model.specs.declared.abs.Stage.TheVariants.{Listed, Cancelling}
use Rattle.model.specs.declared.abs.Abs.{Abs}
use Rattle.model.specs.declared.abs.Duty.{Duty}
use Rattle.model.specs.declared.abs.Duty.TheVariants.{Fresh, Pending, Finished, GivenDown, NoDuty}
use Rattle.model.specs.declared.abs.Kind.{Kind}
use Rattle.model.specs.declared.abs.Kind.TheVariants.{Blank, Num, Lower, New, Own, Queued, View}
use Rattle.model.specs.declared.abs.Rule.{Rule}
use Rattle.model.specs.declared.abs.Rule.TheVariants.{Malformed, Unreachable, StatesDiffer, WrongKind, DoubleCompletion, MarkIrpPending, CancelSpinLock, SpinLock, LockHeld, Level, Guard as GuardRule, CancelState, Dropped, Token, Sort as SortRule, Completion, StackTooSmall, NoLower, TooLong, Memory}
use Rattle.model.specs.declared.instr.Instr.{Instr}
use Rattle.model.specs.declared.instr.Instr.TheVariants.{Const, Move, Clear, Add, Subtract, JumpIfZero, JumpIfLess, Jump, Loop, End, Load, Store, LoadPaged, StorePaged, Get, Put, Mark, Acquire, Release, AcquireCancel, ReleaseCancel, Insert, Remove, Unlink, Arm, Disarm, IfCancel, Start, Take, Begin, Next, Dequeue, Pass, Call, Complete, IfPending, Ret}
use Rattle.model.specs.declared.instr.Return.{Return}
use Rattle.model.specs.declared.instr.Return.TheVariants.{WithStatus, Lower as LowerStatus, Continue, Stop, Void}
use Rattle.model.specs.declared.set.QueueName.{QueueName}
use Rattle.model.specs.declared.set.QueueName.TheVariants.{Declared, DeviceQueue}
use Rattle.model.specs.declared.set.Sort.{Sort}
use Rattle.model.specs.declared.set.Sort.TheVariants.{Dispatch, StartIo, Dpc, Propagate, Hold, Cancel}
use Rattle.model.specs.declared.status.Status.{Status}
use Rattle.model.specs.LocalRule.{kind_of, is_held, holds_spin_lock, holds_lock, rule_number, least_of, broken_if, unless, Wanted, demanded, is_wanted, missing, a_listed_one, any_packet, a_new_one, one_handed_or_owned, an_owned_one, one_to_mark, one_to_look_at, is_completion, is_pending, free_kind, number_kind, level_fault, complete_kind, completion_sort_fault, forward_sort_fault, forward_fault, hold_fault, status_fault, duty_fault, form_fault, is_settled, is_fresh, is_taken_back, lent_fault, settled_fault, gives_back, left_packet, kept_fault, return_fault, completion_fault, guard_fault, waiting_fault, queued_kind, unlink_kind, names_fault, is_dpc, take_fault, refuses}
use Rattle.model.specs.Kinds.{is_packet, is_blank, is_at, is_exchanged}
use Rattle.model.specs.Set.{Set, has_cancel}

abbrev pub is_own : Rule → Bool
is_own Malformed = false
is_own Unreachable = false
is_own StatesDiffer = false
is_own WrongKind = true
is_own DoubleCompletion = true
is_own MarkIrpPending = true
is_own CancelSpinLock = true
is_own SpinLock = true
is_own LockHeld = true
is_own Level = true
is_own GuardRule = true
is_own CancelState = true
is_own Dropped = true
is_own Token = true
is_own SortRule = true
is_own Completion = true
is_own StackTooSmall = true
is_own NoLower = true
is_own TooLong = false
is_own Memory = false

abbrev none_or_own : Option Rule → Bool
none_or_own None = true
none_or_own (Some rule) = is_own rule

-- none is broken, or one of the instruction's own
abbrev pub IsOwn : Option Rule → Type 0
IsOwn broken = none_or_own broken ≡ true

either_own : (b : Bool) (x y : Option Rule) → IsOwn x → IsOwn y → IsOwn (if b then x else y)
either_own true x y one other = one
either_own false x y one other = other

least_own : (x y : Option Rule) → IsOwn x → IsOwn y → IsOwn (least_of x y)
least_own None y one other = other
least_own (Some rule) None one other = one
least_own (Some rule) (Some second) one other =
    either_own (nat_le (rule_number rule) (rule_number second)) (Some rule) (Some second) one other

broken_own : (b : Bool) (rule : Rule) → is_own rule ≡ true → IsOwn (broken_if b rule)
broken_own b rule own = either_own b (Some rule) None own refl

unless_own : (b : Bool) (rule : Rule) → is_own rule ≡ true → IsOwn (unless b rule)
unless_own b rule own = either_own b None (Some rule) refl own

another_own : (listed marked : Bool)
    → is_own (if listed then CancelState else if marked then MarkIrpPending else Completion) ≡ true
another_own true marked = refl
another_own false true = refl
another_own false false = refl

missing_own : (wanted : Wanted) (kind : Kind) → is_own (missing wanted kind) ≡ true
missing_own wanted Blank = refl
missing_own wanted Num = refl
missing_own wanted Lower = refl
missing_own wanted New = another_own wanted.queued wanted.own
missing_own wanted Own = another_own wanted.queued wanted.new
missing_own wanted (Queued name stage) = refl
missing_own wanted View = refl

demanded_own : (wanted : Wanted) (kind : Kind) → IsOwn (demanded wanted kind)
demanded_own wanted kind =
    unless_own (is_wanted wanted kind) (missing wanted kind) (missing_own wanted kind)

free_own : (kind : Kind) → IsOwn (free_kind kind)
free_own kind = broken_own (is_packet kind) Dropped refl

number_own : (kind : Kind) → IsOwn (number_kind kind)
number_own Blank = refl
number_own Num = refl
number_own Lower = refl
number_own New = refl
number_own Own = refl
number_own (Queued name stage) = refl
number_own View = refl

numbers_own : (one other : Kind) → IsOwn (least_of (number_kind one) (number_kind other))
numbers_own one other =
    least_own (number_kind one) (number_kind other) (number_own one) (number_own other)

level_own : (s : Abs) (sort : Sort) → IsOwn (level_fault s sort)
level_own s Dispatch = broken_own (holds_lock s) Level refl
level_own s StartIo = refl
level_own s Dpc = refl
level_own s Propagate = refl
level_own s Hold = refl
level_own s Cancel = refl

complete_kind_own : (kind : Kind) → IsOwn (complete_kind kind)
complete_kind_own kind =
    either_own (is_blank kind) (Some DoubleCompletion) (demanded one_handed_or_owned kind) refl
    (demanded_own one_handed_or_owned kind)

forward_sort_own : (sort : Sort) → IsOwn (forward_sort_fault sort)
forward_sort_own Dispatch = refl
forward_sort_own StartIo = refl
forward_sort_own Dpc = refl
forward_sort_own Propagate = refl
forward_sort_own Hold = refl
forward_sort_own Cancel = refl

forward_own : (s : Abs) (sort : Sort) (set : Set) (driver locations : ℕ)
    → IsOwn (forward_fault s sort set driver locations)
forward_own s sort set driver locations =
    least_own (broken_if (holds_lock s) LockHeld) _ (broken_own _ LockHeld refl)
    (least_own (forward_sort_fault sort) _ (forward_sort_own sort)
    (least_own (broken_if _ StackTooSmall) (broken_if _ NoLower) (broken_own _ StackTooSmall refl)
    (broken_own _ NoLower refl)))

status_own : (duty : Duty) (status : Status) → IsOwn (status_fault duty status)
status_own Fresh status = broken_own (is_pending status) MarkIrpPending refl
status_own Pending status = broken_own (not (is_pending status)) MarkIrpPending refl
status_own Finished status = broken_own (is_pending status) MarkIrpPending refl
status_own GivenDown status = refl
status_own NoDuty status = broken_own (is_pending status) MarkIrpPending refl

duty_own : (s : Abs) (form : Return) → IsOwn (duty_fault s form)
duty_own s (WithStatus status) = status_own s.duty status
duty_own s (LowerStatus r) =
    least_own (broken_if _ WrongKind) (broken_if _ MarkIrpPending) (broken_own _ WrongKind refl)
    (broken_own _ MarkIrpPending refl)
duty_own s Continue = refl
duty_own s Stop = refl
duty_own s Void = refl

form_own : (sort : Sort) (form : Return) → IsOwn (form_fault sort form)
form_own Dispatch (WithStatus status) = refl
form_own Dispatch form = refl
form_own StartIo (WithStatus status) = refl
form_own StartIo form = refl
form_own Dpc (WithStatus status) = refl
form_own Dpc form = refl
form_own Propagate (WithStatus status) = refl
form_own Propagate form = refl
form_own Hold (WithStatus status) = refl
form_own Hold form = refl
form_own Cancel (WithStatus status) = refl
form_own Cancel form = refl

lent_own : (duty : Duty) (form : Return) → IsOwn (lent_fault duty form)
lent_own duty (WithStatus status) = refl
lent_own duty (LowerStatus r) = refl
lent_own duty Continue = unless_own (is_fresh duty) Completion refl
lent_own duty Stop = unless_own (is_taken_back duty) Completion refl
lent_own duty Void = refl

settled_own : (sort : Sort) (s : Abs) (form : Return) → IsOwn (settled_fault sort s form)
settled_own Dispatch s form = refl
settled_own StartIo s form = refl
settled_own Dpc s form = refl
settled_own Propagate s form = broken_own (not (is_settled s.settled)) Completion refl
settled_own Hold s form = lent_own s.duty form
settled_own Cancel s form = refl

kept_own : (s : Abs) (back : Bool) → IsOwn (kept_fault s back)
kept_own s back =
    least_own (broken_if s.cancel CancelSpinLock) _ (broken_own s.cancel CancelSpinLock refl)
    (least_own (broken_if (holds_spin_lock s) SpinLock) _
    (broken_own (holds_spin_lock s) SpinLock refl)
    (least_own (left_packet s back) (broken_if s.token Token) (broken_own _ Dropped refl)
    (broken_own s.token Token refl)))

return_own : (s : Abs) (form : Return) (sort : Sort) → IsOwn (return_fault s form sort)
return_own s form sort =
    least_own (duty_fault s form) _ (duty_own s form)
    (least_own (kept_fault s (gives_back sort form)) _ (kept_own s (gives_back sort form))
    (least_own (form_fault sort form) (settled_fault sort s form) (form_own sort form)
    (settled_own sort s form)))

completion_own : (s : Abs) (status : Status) (sort : Sort) → IsOwn (completion_fault s status sort)
completion_own s status sort =
    least_own (broken_if (is_pending status) MarkIrpPending) _
    (broken_own (is_pending status) MarkIrpPending refl)
    (least_own (broken_if (holds_lock s) LockHeld) (completion_sort_fault sort)
    (broken_own (holds_lock s) LockHeld refl) (broken_own (is_completion sort) Completion refl))

guard_own : (s : Abs) (set : Set) (driver : ℕ) (name : QueueName)
    → IsOwn (guard_fault s set driver name)
guard_own s set driver name = unless_own _ GuardRule refl

waiting_own : (s : Abs) (set : Set) (driver : ℕ) → IsOwn (waiting_fault s set driver)
waiting_own s set driver =
    either_own (has_cancel set driver DeviceQueue) (guard_fault s set driver DeviceQueue) None
    (guard_own s set driver DeviceQueue) refl

queued_own : (fits : Bool) (kind : Kind) → IsOwn (queued_kind fits kind)
queued_own fits kind =
    unless_own (is_wanted a_listed_one kind && fits) (missing a_listed_one kind)
    (missing_own a_listed_one kind)

pub refuses_own : (s : Abs) (i : Instr) (sort : Sort) (set : Set) (driver : ℕ)
    → IsOwn (refuses s i sort set driver)
refuses_own s (Const r n) sort set driver = free_own (kind_of s r)
refuses_own s (Move r q) sort set driver = free_own (kind_of s r)
refuses_own s (Clear r) sort set driver = free_own (kind_of s r)
refuses_own s (Add r q) sort set driver = numbers_own (kind_of s r) (kind_of s q)
refuses_own s (Subtract r q) sort set driver = numbers_own (kind_of s r) (kind_of s q)
refuses_own s (JumpIfZero r label) sort set driver = number_own (kind_of s r)
refuses_own s (JumpIfLess r q label) sort set driver = numbers_own (kind_of s r) (kind_of s q)
refuses_own s (Jump label) sort set driver = refl
refuses_own s (Loop turns) sort set driver = refl
refuses_own s End sort set driver = refl
refuses_own s (Load r c) sort set driver = free_own (kind_of s r)
refuses_own s (Store c r) sort set driver = number_own (kind_of s r)
refuses_own s (LoadPaged r c) sort set driver =
    least_own (level_fault s sort) _ (level_own s sort) (free_own (kind_of s r))
refuses_own s (StorePaged c r) sort set driver =
    least_own (number_kind (kind_of s r)) _ (number_own (kind_of s r)) (level_own s sort)
refuses_own s (Get r q field) sort set driver =
    least_own (demanded any_packet (kind_of s q)) _ (demanded_own any_packet (kind_of s q))
    (free_own (kind_of s r))
refuses_own s (Put q r) sort set driver =
    least_own (demanded any_packet (kind_of s q)) _ (demanded_own any_packet (kind_of s q))
    (number_own (kind_of s r))
refuses_own s (Mark r) sort set driver =
    least_own (demanded one_to_mark (kind_of s r)) _ (demanded_own one_to_mark (kind_of s r))
    (broken_own _ Completion refl)
refuses_own s (Acquire lock) sort set driver = broken_own (is_held s lock) SpinLock refl
refuses_own s (Release lock) sort set driver =
    least_own (broken_if _ SpinLock) (broken_if _ GuardRule) (broken_own _ SpinLock refl)
    (broken_own _ GuardRule refl)
refuses_own s AcquireCancel sort set driver = broken_own s.cancel CancelSpinLock refl
refuses_own s ReleaseCancel sort set driver =
    least_own (broken_if _ CancelSpinLock) (broken_if _ GuardRule)
    (broken_own _ CancelSpinLock refl) (broken_own _ GuardRule refl)
refuses_own s (Insert r q) sort set driver =
    least_own (demanded an_owned_one (kind_of s r)) _ (demanded_own an_owned_one (kind_of s r))
    (guard_own s set driver (Declared q))
refuses_own s (Remove r q label) sort set driver =
    least_own (guard_fault s set driver (Declared q)) _ (guard_own s set driver (Declared q))
    (least_own (free_kind (kind_of s r)) (names_fault s (Declared q)) (free_own (kind_of s r))
    (broken_own _ CancelState refl))
refuses_own s (Unlink r q) sort set driver =
    least_own (unlink_kind (Declared q) (kind_of s r)) _ (queued_own _ (kind_of s r))
    (guard_own s set driver (Declared q))
refuses_own s (Arm r q) sort set driver =
    least_own (queued_kind (is_at Listed (Declared q) (kind_of s r)) (kind_of s r)) _
    (queued_own _ (kind_of s r)) (guard_own s set driver (Declared q))
refuses_own s (Disarm r label) sort set driver =
    queued_own (is_exchanged (kind_of s r)) (kind_of s r)
refuses_own s (IfCancel r label) sort set driver = demanded_own any_packet (kind_of s r)
refuses_own s (Start r) sort set driver =
    least_own (demanded an_owned_one (kind_of s r)) _ (demanded_own an_owned_one (kind_of s r))
    (least_own (waiting_fault s set driver) _ (waiting_own s set driver)
    (unless_own _ SortRule refl))
refuses_own s (Take r label) sort set driver =
    least_own (take_fault s sort) _
    (least_own (broken_if s.token Token) (unless (is_dpc sort) SortRule)
    (broken_own s.token Token refl) (unless_own (is_dpc sort) SortRule refl))
    (free_own (kind_of s r))
refuses_own s (Begin r) sort set driver =
    least_own (demanded an_owned_one (kind_of s r)) _ (demanded_own an_owned_one (kind_of s r))
    (unless_own s.token Token refl)
refuses_own s Next sort set driver =
    least_own (waiting_fault s set driver) _ (waiting_own s set driver)
    (unless_own s.token Token refl)
refuses_own s (Dequeue r) sort set driver =
    least_own (queued_kind (is_at Cancelling DeviceQueue (kind_of s r)) (kind_of s r)) _
    (queued_own _ (kind_of s r))
    (least_own (guard_fault s set driver DeviceQueue) _ (guard_own s set driver DeviceQueue)
    (unless_own _ SortRule refl))
refuses_own s (Pass r) sort set driver =
    least_own (demanded a_new_one (kind_of s r)) _ (demanded_own a_new_one (kind_of s r))
    (forward_own s sort set driver 0)
refuses_own s (Call r f) sort set driver =
    least_own (demanded one_handed_or_owned (kind_of s r)) _
    (demanded_own one_handed_or_owned (kind_of s r))
    (least_own (forward_fault s sort set driver 1) (hold_fault (kind_of s r) set driver f)
    (forward_own s sort set driver 1) (broken_own _ Completion refl))
refuses_own s (Complete r status) sort set driver =
    least_own (complete_kind (kind_of s r)) _ (complete_kind_own (kind_of s r))
    (completion_own s status sort)
refuses_own s (IfPending r label) sort set driver =
    least_own (demanded one_to_look_at (kind_of s r)) _
    (demanded_own one_to_look_at (kind_of s r)) (broken_own _ Completion refl)
refuses_own s (Ret form) sort set driver = return_own s form sort
