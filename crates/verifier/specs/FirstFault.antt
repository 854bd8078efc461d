-- What a first fault of a set is worth: there is one at most, and none where the set is typable.
use Rattle.std.specs.Prelude.{◌≡◌}
use Rattle.model.specs.declared.abs.Refusal.{Refusal}
use Rattle.model.specs.Set.{Set}
use Rattle.model.specs.Typable.{IsFirstFault, IsTypable}

-- two first faults of a set are the same refusal
abbrev pub OneIsFirst : Type 0
OneIsFirst = (set : Set) (one other : Refusal) → IsFirstFault set one → IsFirstFault set other
    → one ≡ other

-- a typable set has none
abbrev pub TypableHasNone : Type 0
TypableHasNone = (set : Set) (refusal : Refusal) → IsFirstFault set refusal → IsTypable set → ⊥
