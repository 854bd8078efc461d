-- The verdict on the set that bytes name.
use Rattle.std.specs.Prelude.{ℕ, ⊤, nat_eq, ◌≡◌, Bool, true, false, List, [], ◌∷◌}
use Rattle.std.specs.List.{starts_with}
use Rattle.asm.specs.declared.fault.AsmFault.{AsmFault}
use Rattle.asm.specs.declared.fault.AsmKind.{AsmKind}
use Rattle.asm.specs.declared.fault.AsmKind.TheVariants as kind
use Rattle.asm.specs.Reading as asm
use Rattle.image.specs.Reading as image
use Rattle.image.specs.Spelling.{Spells}
use Rattle.model.specs.Set.{Set}
use Rattle.model.specs.Sound.{IsSound}
use Rattle.model.specs.Typable.{IsFirstFault, IsTypable}
use Rattle.pafteis_values.specs.declared.verdict.Verdict.{Verdict}
use Rattle.pafteis_values.specs.declared.verdict.Verdict.TheVariants.{Accepted, Refused, Text, Image, NoMemory}

-- bytes that begin with the letters of an image are one, any others a text
abbrev pub is_image : List ℕ → Bool
is_image bytes = starts_with nat_eq bytes (0x44 ∷ 0x56 ∷ 0x42 ∷ [])

-- the set that an image spells, or that a text names
abbrev pub NamesAs : Bool → List ℕ → Set → Type 0
NamesAs true bytes set = IsSound set × Spells bytes set
NamesAs false bytes set = asm.IsNamed bytes set

-- bytes name a set
abbrev pub Names : List ℕ → Set → Type 0
Names bytes set = NamesAs (is_image bytes) bytes set

-- bytes name none, for this fault; or memory ran out
abbrev pub IsUnread : List ℕ → Verdict → Type 0
IsUnread bytes Accepted = ⊥
IsUnread bytes (Refused refusal) = ⊥
IsUnread bytes (Text fault) = (is_image bytes ≡ false) × asm.IsFaultOf bytes fault
IsUnread bytes (Image fault) = (is_image bytes ≡ true) × image.IsFaultOf bytes fault
IsUnread bytes NoMemory = ⊤

-- the verdict on what bytes say: they name a set that is typable, or one with this first fault, or
-- none
abbrev pub IsJudged : List ℕ → Verdict → Type 0
IsJudged bytes Accepted = (set : Set) × Names bytes set × IsTypable set
IsJudged bytes (Refused refusal) = (set : Set) × Names bytes set × IsFirstFault set refusal
IsJudged bytes (Text fault) = IsUnread bytes (Text fault)
IsJudged bytes (Image fault) = IsUnread bytes (Image fault)
IsJudged bytes NoMemory = ⊤

-- the same of what isn't accepted
abbrev pub IsTurnedAway : List ℕ → Verdict → Type 0
IsTurnedAway bytes Accepted = ⊥
IsTurnedAway bytes (Refused refusal) = IsJudged bytes (Refused refusal)
IsTurnedAway bytes (Text fault) = IsUnread bytes (Text fault)
IsTurnedAway bytes (Image fault) = IsUnread bytes (Image fault)
IsTurnedAway bytes NoMemory = ⊤

-- what is said of a text whose fault is of this kind
abbrev pub text_verdict_of : AsmKind → AsmFault → Verdict
text_verdict_of kind.Memory fault = NoMemory
text_verdict_of kind.Lex fault = Text fault
text_verdict_of kind.UnknownWord fault = Text fault
text_verdict_of kind.DuplicateName fault = Text fault
text_verdict_of kind.UnknownName fault = Text fault
text_verdict_of kind.OutOfRange fault = Text fault
text_verdict_of kind.Unclosed fault = Text fault
text_verdict_of kind.OverLimit fault = Text fault

abbrev pub text_verdict : AsmFault → Verdict
text_verdict fault = text_verdict_of fault.kind fault
