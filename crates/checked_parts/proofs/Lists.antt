-- Lists that are written at a place.
use Rattle.std.proofs.Common.{◌≡◌, ℕ, zero, suc, List, [], ◌∷◌, Some, ap, refl}
use Rattle.std.specs.Prelude.{slice_get, slice_set}

-- what stands there, written there, changes nothing
pub set_back : {A : Type 0} (xs : List A) (i : ℕ) (x : A) → slice_get xs i ≡ Some x
    → slice_set xs i x ≡ xs
set_back [] i x h = refl
set_back (z ∷ xs) zero x h = let same : z ≡ x = cc in rw same refl
set_back {A = A} (z ∷ xs) (suc i) x h = ap (λ (ys : List A). z ∷ ys) (set_back xs i x h)
