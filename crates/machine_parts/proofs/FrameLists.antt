-- Lists that are written, at a place or as a whole.
use Rattle.std.proofs.Common.{◌≡◌, ◌<◌, ◌-◌, ℕ, zero, suc, List, [], ◌∷◌, ◌++◌, Some, length, take, get_or, ap, sym, ◌∙◌, refl, arith}
use Rattle.std.specs.Prelude.{slice_get, slice_set}
use Rattle.std.specs.List.{refill}
use Rattle.std.proofs.Math.Seq.{take-append_seam}
use Rattle.std.proofs.lemmas.List.{length_push}
use Rattle.std.proofs.lemmas.Option.{slice_get-get_or}
use Rattle.laws_runs.proofs.Lists.{before_last, last_split}

-- what is read at the last place
pub found_last : {A : Type 0} (xs : List A) (i : ℕ) (x : A) → i ≡ length xs - 1 → i < length xs
    → x ≡ get_or xs i x →
    slice_get xs (length xs - 1) ≡ Some x
found_last {A = A} xs i x last within is =
    rw (← last) (slice_get-get_or xs i x within ∙ ap (λ (y : A). Some y) (sym is))

seam_set : {A : Type 0} (xs : List A) (x y : A) → slice_set (xs ++ x ∷ []) (length xs) y ≡ xs ++ y
    ∷ []
seam_set [] x y = refl
seam_set {A = A} (z ∷ xs) x y = ap (λ (ys : List A). z ∷ ys) (seam_set xs x y)

pub last_set : {A : Type 0} (xs : List A) (x y : A)
    → slice_set (xs ++ x ∷ []) (length (xs ++ x ∷ []) - 1) y ≡ xs ++ y ∷ []
last_set xs x y =
    let more = length_push xs x in
    let last : length (xs ++ x ∷ []) - 1 ≡ length xs = omega (arith, more) in
    rw last (seam_set xs x y)

-- as many elements in the place of all
pub refill_all : {A : Type 0} (xs ys : List A) → length ys ≡ length xs
    → refill (length xs) xs ys ≡ ys
refill_all xs ys h = rw (← h) (take-append_seam ys _)

pub set_last : {A : Type 0} (xs : List A) (x y : A) → slice_get xs (length xs - 1) ≡ Some x →
    slice_set xs (length xs - 1) y ≡ take (length xs - 1) xs ++ y ∷ []
set_last {A = A} xs x y h = set_split xs (take (length xs - 1) xs) (last_split xs x h)
  where
    set_split : (ys front : List A) → ys ≡ front ++ x ∷ []
        → slice_set ys (length ys - 1) y ≡ take (length ys - 1) ys ++ y ∷ []
    set_split ys front split =
        let before = sym (before_last front x) in
        rw split (last_set front x y ∙ ap (λ (zs : List A). zs ++ y ∷ []) before)

-- what stands there, written there, changes nothing
pub set_back : {A : Type 0} (xs : List A) (i : ℕ) (x : A) → slice_get xs i ≡ Some x
    → slice_set xs i x ≡ xs
set_back [] i x h = refl
set_back (z ∷ xs) zero x h = let same : z ≡ x = cc in rw same refl
set_back {A = A} (z ∷ xs) (suc i) x h = ap (λ (ys : List A). z ∷ ys) (set_back xs i x h)
