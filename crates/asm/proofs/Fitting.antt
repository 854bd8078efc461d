-- A line without a fault: each of its tests passes, and it is where it may stand.
use Rattle.std.proofs.Common.{◌≡◌, Bool, true, false, not, Some, None, refl, subst}
use Rattle.std.specs.Prelude.{if◌then◌else◌}
use Rattle.asm.specs.declared.draft.Place.{Place}
use Rattle.asm.specs.declared.draft.Place.TheVariants.{Outside, InDriver, InRoutine}
use Rattle.asm.specs.declared.fault.AsmKind.TheVariants.{UnknownWord, DuplicateName, OutOfRange, OverLimit}
use Rattle.asm_line.specs.declared.line.Body.{Body}
use Rattle.asm_line.specs.declared.line.Line.{Line}
use Rattle.asm.specs.Outline.{Outline, draft_has_room, draft_is_again, is_out_of_range, draft_misfit, stands, IsFitting}

-- no kind is chosen only where each test passes
pub none_chosen : (a b c d : Bool)
    → (if not a then Some UnknownWord
    else (if b then Some DuplicateName
    else (if c then Some OutOfRange else (if not d then Some OverLimit else None)))) ≡ None
    → (a ≡ true) × (b ≡ false) × (c ≡ false) × (d ≡ true)
none_chosen false b c d h = cc
none_chosen true true c d h = cc
none_chosen true false true d h = cc
none_chosen true false false false h = cc
none_chosen true false false true h = (refl, refl, refl, refl)

pub fitting : (o : Outline) (l : Line) → draft_misfit o l ≡ None → IsFitting o l
fitting o l h =
    let all = none_chosen (stands o.place l.body) (draft_is_again o l.label l.body)
    (is_out_of_range l.body) (draft_has_room o l.body) h in
    record { standing = all.0; fresh = all.1; in_range = all.2; room = all.3 }

-- a line isn't in a place where it may not stand
pub never_in : (q p : Place) (body : Body) → stands q body ≡ false → stands p body ≡ true → p ≡ q
    → ⊥
never_in q p body refused stood is =
    let here : stands q body ≡ true =
    subst (λ (place : Place). stands place body ≡ true) is stood in cc

-- where it may stand in one place only, it is there
pub only_outside : (p : Place) (body : Body) → stands InDriver body ≡ false
    → stands InRoutine body ≡ false → stands p body ≡ true → p ≡ Outside
only_outside Outside body a b stood = refl
only_outside _ body a b stood = cc

pub only_in_driver : (p : Place) (body : Body) → stands Outside body ≡ false
    → stands InRoutine body ≡ false → stands p body ≡ true → p ≡ InDriver
only_in_driver InDriver body a b stood = refl
only_in_driver _ body a b stood = cc

pub only_in_routine : (p : Place) (body : Body) → stands Outside body ≡ false
    → stands InDriver body ≡ false → stands p body ≡ true → p ≡ InRoutine
only_in_routine InRoutine body a b stood = refl
only_in_routine _ body a b stood = cc
