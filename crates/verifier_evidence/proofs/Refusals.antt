-- What a refusal for want of memory is.
use Rattle.std.proofs.Common.{◌≡◌, ◌∙◌, ◌⊎◌, inl, inr, sym, subst, ap}
use Rattle.model.specs.declared.abs.Refusal.{Refusal}
use Rattle.model.specs.declared.abs.Rule.{Rule}
use Rattle.model.specs.declared.abs.Rule.TheVariants.{Malformed, Memory}
use Rattle.model.specs.Set.{Set, member}
use Rattle.model.specs.Typable.{IsFaultAt, IsFirstFault, at_start}
use Rattle.verifier_evidence.proofs.Cases.{memory_of}

abbrev pub IsRefused : Set → Refusal → Type 0
IsRefused set refusal = (refusal ≡ at_start Memory) ⊎ IsFirstFault set refusal

-- want of memory
pub for_memory : (set : Set) (refusal : Refusal) → IsRefused set refusal → refusal.rule ≡ Memory
    → refusal ≡ at_start Memory
for_memory set refusal (inl h) is = h
for_memory set refusal (inr (inl h)) is =
    let rule : refusal.rule ≡ Malformed = ap (λ (r : Refusal). r.rule) h.1 in
    let other : Malformed ≡ Memory = sym rule ∙ is in
    cc
for_memory set refusal (inr (inr h)) is =
    absurd (memory_of (member set refusal.driver refusal.routine h.routine) refusal.at
    (subst (λ (r : Rule). IsFaultAt (member set refusal.driver refusal.routine h.routine)
    refusal.at r) is h.first.fault))
