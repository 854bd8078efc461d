-- The words of status values, bug checks, sorts and rules, as they are written everywhere.
use Rattle.std.specs.Prelude.{ℕ, zero, suc, ◌+◌, ◌/◌, ◌%◌, List, [], ◌∷◌, ◌++◌, codes, nat_lt, if◌then◌else◌}
use Rattle.model.specs.declared.abs.Rule.{Rule}
use Rattle.model.specs.declared.abs.Rule.TheVariants.{Malformed, Unreachable, StatesDiffer, WrongKind, DoubleCompletion, MarkIrpPending, CancelSpinLock, SpinLock, LockHeld, Level, Guard, CancelState, Dropped, Token, Sort as SortRule, Completion, StackTooSmall, NoLower, TooLong, Memory}
use Rattle.model.specs.declared.event.BugCheck.{BugCheck}
use Rattle.model.specs.declared.event.BugCheck.TheVariants.{IrqlNotLessOrEqual, SpinLockAlreadyOwned, SpinLockNotOwned, NoMoreIrpStackLocations, MultipleIrpCompleteRequests, CancelStateInCompletedIrp}
use Rattle.model.specs.declared.set.Sort.{Sort}
use Rattle.model.specs.declared.set.Sort.TheVariants.{Dispatch, StartIo, Dpc, Propagate, Hold, Cancel}
use Rattle.model.specs.declared.status.Status.{Status}
use Rattle.model.specs.Status.{status_code}

-- the hexadecimal digit of a number below 16, in upper case
abbrev pub hex_digit : ℕ → ℕ
hex_digit n = if nat_lt n 10 then 48 + n else 55 + n

-- the last hexadecimal digits of a number, as many as are asked for
abbrev pub hex_digits : ℕ → ℕ → List ℕ
hex_digits zero n = []
hex_digits (suc count) n = hex_digits count (n / 16) ++ hex_digit (n % 16) ∷ []

-- a status value: `0x` and eight digits
abbrev pub status_text : Status → List ℕ
status_text status = codes "0x" ++ hex_digits 8 (status_code status)

-- the number of a bug check in the bug check reference
abbrev pub bug_check_code : BugCheck → ℕ
bug_check_code IrqlNotLessOrEqual = 0x0A
bug_check_code SpinLockAlreadyOwned = 0x0F
bug_check_code SpinLockNotOwned = 0x10
bug_check_code NoMoreIrpStackLocations = 0x35
bug_check_code MultipleIrpCompleteRequests = 0x44
bug_check_code CancelStateInCompletedIrp = 0x48

-- a bug check: `0x` and two digits
abbrev pub bug_check_text : BugCheck → List ℕ
bug_check_text check = codes "0x" ++ hex_digits 2 (bug_check_code check)

-- the word of a sort
abbrev pub sort_text : Sort → List ℕ
sort_text Dispatch = codes "dispatch"
sort_text StartIo = codes "startio"
sort_text Dpc = codes "dpc"
sort_text Propagate = codes "propagate"
sort_text Hold = codes "hold"
sort_text Cancel = codes "cancel"

-- a rule: its number and its name
abbrev pub rule_text : Rule → List ℕ
rule_text Malformed = codes "V1 Malformed"
rule_text Unreachable = codes "V2 Unreachable"
rule_text StatesDiffer = codes "V3 StatesDiffer"
rule_text WrongKind = codes "V4 WrongKind"
rule_text DoubleCompletion = codes "V5 DoubleCompletion"
rule_text MarkIrpPending = codes "V6 MarkIrpPending"
rule_text CancelSpinLock = codes "V7 CancelSpinLock"
rule_text SpinLock = codes "V8 SpinLock"
rule_text LockHeld = codes "V9 LockHeld"
rule_text Level = codes "V10 Level"
rule_text Guard = codes "V11 Guard"
rule_text CancelState = codes "V12 CancelState"
rule_text Dropped = codes "V13 Dropped"
rule_text Token = codes "V14 Token"
rule_text SortRule = codes "V15 Sort"
rule_text Completion = codes "V16 Completion"
rule_text StackTooSmall = codes "V17 StackTooSmall"
rule_text NoLower = codes "V18 NoLower"
rule_text TooLong = codes "V19 TooLong"
rule_text Memory = codes "V20 Memory"

-- the word of a rule: its number
abbrev pub rule_word : Rule → List ℕ
rule_word Malformed = codes "V1"
rule_word Unreachable = codes "V2"
rule_word StatesDiffer = codes "V3"
rule_word WrongKind = codes "V4"
rule_word DoubleCompletion = codes "V5"
rule_word MarkIrpPending = codes "V6"
rule_word CancelSpinLock = codes "V7"
rule_word SpinLock = codes "V8"
rule_word LockHeld = codes "V9"
rule_word Level = codes "V10"
rule_word Guard = codes "V11"
rule_word CancelState = codes "V12"
rule_word Dropped = codes "V13"
rule_word Token = codes "V14"
rule_word SortRule = codes "V15"
rule_word Completion = codes "V16"
rule_word StackTooSmall = codes "V17"
rule_word NoLower = codes "V18"
rule_word TooLong = codes "V19"
rule_word Memory = codes "V20"
