-- The rule of a number.
use Rattle.std.specs.Prelude.{ℕ, List, [], ◌∷◌, nat_eq, if◌then◌else◌, Option, None, Some}
use Rattle.model.specs.declared.abs.Rule.{Rule}
use Rattle.model.specs.declared.abs.Rule.TheVariants.{Malformed, Unreachable, StatesDiffer, WrongKind, DoubleCompletion, MarkIrpPending, CancelSpinLock, SpinLock, LockHeld, Level, Guard as GuardRule, CancelState, Dropped, Token, Sort as SortRule, Completion, StackTooSmall, NoLower, TooLong, Memory}
use Rattle.model.specs.LocalRule.{rule_number}

-- all rules
abbrev pub rules : List Rule
rules =
    Malformed ∷ Unreachable ∷ StatesDiffer ∷ WrongKind ∷ DoubleCompletion ∷ MarkIrpPending
    ∷ CancelSpinLock ∷ SpinLock ∷ LockHeld ∷ Level ∷ GuardRule ∷ CancelState ∷ Dropped ∷ Token
    ∷ SortRule ∷ Completion ∷ StackTooSmall ∷ NoLower ∷ TooLong ∷ Memory ∷ []

-- the first of them that has a number
abbrev pub first_numbered : ℕ → List Rule → Option Rule
first_numbered n [] = None
first_numbered n (rule ∷ rest) =
    if nat_eq n (rule_number rule) then Some rule else first_numbered n rest

-- the rule of a number, if there is one
abbrev pub rule_named : ℕ → Option Rule
rule_named n = first_numbered n rules
