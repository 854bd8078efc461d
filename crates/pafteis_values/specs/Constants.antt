-- The names of rules, status values and bug checks, by number.
use Rattle.std.specs.Prelude.{ℕ, List, [], ◌∷◌, nat_eq, if◌then◌else◌, Option, None, Some, codes, option_map}
use Rattle.model.specs.Status.{status_code}
use Rattle.model.specs.declared.status.Status.{Status}
use Rattle.model.specs.declared.status.Status.TheVariants.{Success, Pending, Busy, Unsuccessful, InvalidParameter, InvalidDeviceRequest, Cancelled}
use Rattle.model.specs.declared.event.BugCheck.{BugCheck}
use Rattle.model.specs.declared.event.BugCheck.TheVariants.{IrqlNotLessOrEqual, SpinLockAlreadyOwned, SpinLockNotOwned, NoMoreIrpStackLocations, MultipleIrpCompleteRequests, CancelStateInCompletedIrp}
use Rattle.model.specs.Words.{bug_check_code, rule_text}
use Rattle.pafteis_values.specs.Rule.{rule_named as rule_numbered}

abbrev pub rule_named : ℕ → Option (List ℕ)
rule_named number = option_map rule_text (rule_numbered number)

-- the first of some constants that has a number, and its name
abbrev pub first_named : {A : Type 0} → (A → ℕ) → (A → List ℕ) → ℕ → List A → Option (List ℕ)
first_named number_of name_of n [] = None
first_named {A} number_of name_of n (a ∷ more) =
    if nat_eq n (number_of a) then Some (name_of a)
    else first_named {A = A} number_of name_of n more

-- the names of NTSTATUS values in the Driver Kit's header ntstatus.h
abbrev pub status_name : Status → List ℕ
status_name Success = codes "STATUS_SUCCESS"
status_name Pending = codes "STATUS_PENDING"
status_name Busy = codes "STATUS_DEVICE_BUSY"
status_name Unsuccessful = codes "STATUS_UNSUCCESSFUL"
status_name InvalidParameter = codes "STATUS_INVALID_PARAMETER"
status_name InvalidDeviceRequest = codes "STATUS_INVALID_DEVICE_REQUEST"
status_name Cancelled = codes "STATUS_CANCELLED"

abbrev pub statuses : List Status
statuses =
    Success ∷ Pending ∷ Busy ∷ Unsuccessful ∷ InvalidParameter ∷ InvalidDeviceRequest
    ∷ Cancelled ∷ []

abbrev pub status_named : ℕ → Option (List ℕ)
status_named value = first_named status_code status_name value statuses

-- the names of bug checks in the bug check reference
abbrev pub bug_check_name : BugCheck → List ℕ
bug_check_name IrqlNotLessOrEqual = codes "IRQL_NOT_LESS_OR_EQUAL"
bug_check_name SpinLockAlreadyOwned = codes "SPIN_LOCK_ALREADY_OWNED"
bug_check_name SpinLockNotOwned = codes "SPIN_LOCK_NOT_OWNED"
bug_check_name NoMoreIrpStackLocations = codes "NO_MORE_IRP_STACK_LOCATIONS"
bug_check_name MultipleIrpCompleteRequests = codes "MULTIPLE_IRP_COMPLETE_REQUESTS"
bug_check_name CancelStateInCompletedIrp = codes "CANCEL_STATE_IN_COMPLETED_IRP"

abbrev pub bug_checks : List BugCheck
bug_checks =
    IrqlNotLessOrEqual ∷ SpinLockAlreadyOwned ∷ SpinLockNotOwned ∷ NoMoreIrpStackLocations
    ∷ MultipleIrpCompleteRequests ∷ CancelStateInCompletedIrp ∷ []

abbrev pub bug_check_named : ℕ → Option (List ℕ)
bug_check_named number = first_named bug_check_code bug_check_name number bug_checks
