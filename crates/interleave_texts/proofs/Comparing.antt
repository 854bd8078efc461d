-- When two lists of events are the same, and when a test says so.
use Rattle.std.proofs.Common.{◌≡◌, ◌∙◌, ℕ, Bool, true, false, IsTrue, List, [], ◌∷◌, ap, arith, length, nat_eq, refl, sym, eq-eqb}
use Rattle.std.proofs.lemmas.Bool.{eqb-true}
use Rattle.model.specs.declared.event.Event.{Event}

pub never : {A : Type 0} → IsTrue false → A
never h = let not : false ≡ true = h in cc

pub not_both : (b : Bool) → IsTrue b → b ≡ false → ⊥
not_both b h g = let not : true ≡ false = sym h ∙ g in cc

-- a list that has an element is no empty one
pub not_empty : (left right later : List Event) (e : Event) → left ≡ e ∷ later → length right ≡ 0
    → left ≡ right → IsTrue false
not_empty left right later e some none same =
    absurd (omega (arith, ap length some, none, ap length same))

pub same_first : (left right later behind : List Event) (e f : Event) → left ≡ e ∷ later
    → right ≡ f ∷ behind → left ≡ right → e ≡ f
same_first left right later behind e f some other same =
    let both : e ∷ later ≡ f ∷ behind = sym some ∙ same ∙ other in cc

both_empty : (left right : List Event) → length left ≡ 0 → length right ≡ 0 → left ≡ right
both_empty [] [] none empty = refl
both_empty [] (f ∷ behind) none empty = absurd (omega (arith, empty))
both_empty (e ∷ later) right none empty = absurd (omega (arith, none))

-- where one list is empty, the other is the same exactly where it is empty too
pub empty_same : (left right : List Event) (b : Bool) → length left ≡ 0
    → b ≡ nat_eq (length right) 0 → IsTrue b → left ≡ right
empty_same left right b none tells h =
    both_empty left right none (eqb-true (length right) 0 (sym tells ∙ h))

pub same_empty : (left right : List Event) (b : Bool) → length left ≡ 0
    → b ≡ nat_eq (length right) 0 → left ≡ right → IsTrue b
same_empty left right b none tells same =
    tells ∙ eq-eqb (length right) 0 (omega (arith, none, ap length same))
