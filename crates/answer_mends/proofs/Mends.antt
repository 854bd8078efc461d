-- Offers, one behind another, and what they mend.
use Rattle.std.proofs.Common.{◌≡◌, ℕ, ◌+◌, ◌++◌, ◌⊎◌, inl, inr, List, Option, Some, None, Result, Ok, Err, IfOk, IfSome, OnOk, ◌∙◌, append_assoc, ap, sym, subst}
use Rattle.drvhost_devices.specs.Answer.{FileSays}
use Rattle.drvhost_devices.specs.Device.{Bytes}
use Rattle.drvhost_devices.specs.Fault.{ReadsSet}
use Rattle.model.specs.declared.abs.Refusal.{Refusal}
use Rattle.model.specs.declared.abs.Rule.TheVariants as Rule
use Rattle.model.specs.Set.{Set}
use Rattle.model.specs.Typable.{IsFirstFault, at_start}
use Rattle.std.specs.Prelude.{◌≢◌}
use Rattle.answer_mends.specs.declared.judging.Extent.{Extent}
use Rattle.answer_mends.specs.declared.judging.Extent.TheVariants.{Part}
use Rattle.answer_mends.specs.Mend.{IsLater, IsOf, NamesOf}

-- what is so of the set that a text names is so of the text
pub named_of : {E : Type 0} (refusal : Refusal) (made : List ℕ) (set : Set)
    (judged : Result (Option Extent) E) → ReadsSet (Bytes made) (Ok set)
    → IfOk judged (λ j. IfSome j (λ extent. IsOf extent refusal set))
    → IfOk judged (λ j. IfSome j (λ extent. NamesOf extent refusal made))
named_of refusal made set (Ok None) read of = tt
named_of refusal made set (Ok (Some extent)) (bytes, same, says) of =
    let P : List ℕ → Type 0 = λ b. FileSays b (Ok set) in (set, subst P same says, of)
named_of refusal made set (Err e) read of = tt

-- a refusal that isn't for want of memory tells the first fault
pub first_fault : (set : Set) (refusal : Refusal)
    → (refusal ≡ at_start Rule.Memory) ⊎ IsFirstFault set refusal → refusal.rule ≢ Rule.Memory
    → IsFirstFault set refusal
first_fault set refusal (inl e) other = absurd (other (ap (λ r. r.rule) e))
first_fault set refusal (inr first) other = first

-- of a first fault in a later routine a part is mended
pub part_mended : (set : Set) (left refusal : Refusal) (found : Option Extent)
    → IsFirstFault set left
    → IfSome found (λ extent. (extent ≡ Part left) × IsLater left refusal)
    → IfSome found (λ extent. IsOf extent refusal set)
part_mended set left refusal None first h = tt
part_mended set left refusal (Some extent) first h =
    let P : Extent → Type 0 = λ e. IsOf e refusal set in
    subst P (sym h.0) (first, h.1)

-- the parts of an offer, behind what was written
pub offer_added : {T E : Type 0} (result : Result T E)
    (old head words shown one two three : List ℕ) → one ≡ old ++ head → two ≡ one ++ words
    → OnOk result (three ≡ two ++ shown)
    → OnOk result (three ≡ old ++ (head ++ (words ++ shown)))
offer_added (Ok x) old head words shown one two three a b c =
    c ∙ ap (λ t. t ++ shown) (b ∙ ap (λ t. t ++ words) a) ∙ append_assoc (old ++ head) words shown
    ∙ append_assoc old head (words ++ shown)
offer_added (Err e) old head words shown one two three a b c = tt

-- two parts, one behind the other
pub added_twice : {T E : Type 0} (result : Result T E) (old first second one two : List ℕ)
    → one ≡ old ++ first → OnOk result (two ≡ one ++ second)
    → OnOk result (two ≡ old ++ (first ++ second))
added_twice (Ok x) old first second one two a b =
    b ∙ ap (λ t. t ++ second) a ∙ append_assoc old first second
added_twice (Err e) old first second one two a b = tt
