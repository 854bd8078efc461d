-- A rule's number stands before the space in its words, and its name behind it.
use Rattle.std.proofs.Common.{◌≡◌, ◌==◌, refl}
use Rattle.std.specs.List.{before_first, after_first}
use Rattle.model.specs.declared.abs.Rule.{Rule}
use Rattle.model.specs.declared.abs.Rule.TheVariants.{Malformed, Unreachable, StatesDiffer, WrongKind, DoubleCompletion, MarkIrpPending, CancelSpinLock, SpinLock, LockHeld, Level, Guard, CancelState, Dropped, Token, Sort as SortRule, Completion, StackTooSmall, NoLower, TooLong, Memory}
use Rattle.model.specs.Words.{rule_text, rule_word}
use Rattle.report.specs.Rule.{rule_name}

pub record Parted (rule : Rule) : Type 0 where
  pub word : before_first (λ byte. byte == 32) (rule_text rule) ≡ rule_word rule
  pub name : after_first (λ byte. byte == 32) (rule_text rule) ≡ rule_name rule

pub parted : (rule : Rule) → Parted rule
parted Malformed = record { word = refl; name = refl }
parted Unreachable = record { word = refl; name = refl }
parted StatesDiffer = record { word = refl; name = refl }
parted WrongKind = record { word = refl; name = refl }
parted DoubleCompletion = record { word = refl; name = refl }
parted MarkIrpPending = record { word = refl; name = refl }
parted CancelSpinLock = record { word = refl; name = refl }
parted SpinLock = record { word = refl; name = refl }
parted LockHeld = record { word = refl; name = refl }
parted Level = record { word = refl; name = refl }
parted Guard = record { word = refl; name = refl }
parted CancelState = record { word = refl; name = refl }
parted Dropped = record { word = refl; name = refl }
parted Token = record { word = refl; name = refl }
parted SortRule = record { word = refl; name = refl }
parted Completion = record { word = refl; name = refl }
parted StackTooSmall = record { word = refl; name = refl }
parted NoLower = record { word = refl; name = refl }
parted TooLong = record { word = refl; name = refl }
parted Memory = record { word = refl; name = refl }
