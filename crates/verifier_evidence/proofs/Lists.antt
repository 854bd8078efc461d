-- Reading a list after a write.
use Rattle.std.specs.Prelude.{drop}
use Rattle.std.proofs.Math.Seq.{take-append_seam}
use Rattle.std.proofs.Common.{◌≡◌, ◌∙◌, ◌++◌, take, ℕ, zero, suc, ◌<◌, List, [], ◌∷◌, length, Some, slice_set, refl, arith, ap}
use Rattle.std.specs.Prelude.{slice_get}
use Rattle.std.proofs.lemmas.Option.{slice_get-get_or}
use Rattle.std.proofs.lemmas.List.{get_or-set_same, length-set}

pub set_same : {X : Type 0} (xs : List X) (i : ℕ) (x : X) → i < length xs
    → slice_get (slice_set xs i x) i ≡ Some x
set_same {X = X} xs i x within =
    let long : length (slice_set xs i x) ≡ length xs = length-set xs i x in
    slice_get-get_or (slice_set xs i x) i x (omega arith)
    ∙ ap Some (get_or-set_same xs i x x within)

pub set_other : {X : Type 0} (xs : List X) (i j : ℕ) (x : X) → (j ≡ i → ⊥)
    → slice_get (slice_set xs i x) j ≡ slice_get xs j
set_other [] i j x differs = refl
set_other (y ∷ ys) zero zero x differs = absurd (differs refl)
set_other (y ∷ ys) zero (suc j) x differs = refl
set_other (y ∷ ys) (suc i) zero x differs = refl
set_other (y ∷ ys) (suc i) (suc j) x differs = set_other ys i j x (λ same. differs (ap suc same))

-- a table that a slice of all of it was lent from, after the slice was written
pub lent_back : {X : Type 0} (old new : List X) (n : ℕ) → n ≡ length old → length new ≡ length old
    → take n (new ++ drop (length new) old) ≡ new
lent_back {X = X} old new n whole long =
    let same : n ≡ length new = omega arith in
    ap (λ (k : ℕ). take k (new ++ drop (length new) old)) same
    ∙ take-append_seam new (drop (length new) old)
