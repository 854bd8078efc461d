-- What the fields of a pass say of the routine that it goes over.
use Rattle.std.proofs.Common.{◌≡◌, ℕ, ◌<◌, List, ◌++◌, length, take, Some, slice_index_or, arith, sym, subst, ◌∙◌, ap}
use Rattle.std.specs.Prelude.{slice_get, drop}
use Rattle.std.proofs.Math.Seq.{take-append_seam}
use Rattle.std.proofs.lemmas.Option.{slice_get-get_or, get_or_from_slice_get}
use Rattle.model.specs.declared.abs.Abs.{Abs}
use Rattle.model.specs.Set.{Member, member}
use Rattle.model.specs.Typable.{ClosesAlike, ClosesUnlike}
use Rattle.verifier.specs.declared.pass.Pass.TheInside.{Inside}
use Rattle.verifier.specs.Pass.{Progress, IsPassed, progress}

abbrev pub member_of : Inside → Member
member_of p = member p.set.now p.driver p.number p.routine.now

abbrev pub progress_of : Inside → Progress
progress_of p = progress (member_of p) p.at

pub within_fields : (p : Inside) (g : Progress) → progress_of p ≡ g
    → g.at < length g.member.routine.code → p.at < length p.routine.now.code
within_fields p g shown within =
    subst (λ (x : Progress). x.at < length x.member.routine.code) (sym shown) within

-- an element that was read is the one there, whatever stands for none
pub read_as : {X : Type 0} (xs : List X) (i : ℕ) (x y d : X) → i < length xs
    → x ≡ slice_index_or xs i x → x ≡ y → slice_index_or xs i d ≡ y
read_as xs i x y d within read is =
    get_or_from_slice_get xs i y d (slice_get-get_or xs i x within ∙ ap Some (sym read ∙ is))

-- whether an `end` is reached alike
pub alike_fields : (p : Inside) (g : Progress) (s : Abs) → progress_of p ≡ g
    → ClosesAlike g.member g.at s (slice_get g.member.routine.code g.at)
    → ClosesAlike (member_of p) p.at s (slice_get p.routine.now.code p.at)
alike_fields p g s shown closes =
    subst (λ (x : Progress). ClosesAlike x.member x.at s (slice_get x.member.routine.code x.at))
    (sym shown) closes

pub unlike_fields : (p : Inside) (g : Progress) (s : Abs) → progress_of p ≡ g
    → ClosesUnlike g.member g.at s (slice_get g.member.routine.code g.at)
    → ClosesUnlike (member_of p) p.at s (slice_get p.routine.now.code p.at)
unlike_fields p g s shown closes =
    subst (λ (x : Progress). ClosesUnlike x.member x.at s (slice_get x.member.routine.code x.at))
    (sym shown) closes

-- no fault stands at its position
pub passed_fields : (p : Inside) (g : Progress) → progress_of p ≡ g → IsPassed g.member g.at
    → IsPassed (member_of p) p.at
passed_fields p g shown passed = subst (λ (x : Progress). IsPassed x.member x.at) (sym shown) passed

-- a table that a slice of all of it was lent from, after the slice was written
pub lent_back : {X : Type 0} (old new : List X) (n : ℕ) → n ≡ length old → length new ≡ length old
    → take n (new ++ drop (length new) old) ≡ new
lent_back {X = X} old new n whole long =
    let same : n ≡ length new = omega arith in
    ap (λ (k : ℕ). take k (new ++ drop (length new) old)) same
    ∙ take-append_seam new (drop (length new) old)
