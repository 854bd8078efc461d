-- Two lists that belong together, at an index.
use Rattle.std.proofs.Common.{◌<◌, ◌+◌, ◌++◌, ℕ, zero, suc, List, [], ◌∷◌, arith, get_or, length, subst, sym, take}
use Rattle.std.proofs.lemmas.List.{take_more}
use Rattle.std.specs.List.{AllZip}
use Rattle.drvhost_many.proofs.Reading.{zip_more}

pub zip_at : {A B : Type 0} (R : A → B → Type 0) (xs : List A) (ys : List B) (i : ℕ) (d : A) (e : B)
    → AllZip R xs ys → i < length xs → R (get_or xs i d) (get_or ys i e)
zip_at R [] ys i d e h less = let no : ⊥ = omega (arith, less) in absurd no
zip_at R (x ∷ xs) [] i d e h less = absurd h
zip_at R (x ∷ xs) (y ∷ ys) zero d e (r, h) less = r
zip_at R (x ∷ xs) (y ∷ ys) (suc i) d e (r, h) less = zip_at R xs ys i d e h (omega (arith, less))

-- one more of each
pub zip_next : {A B : Type 0} (R : A → B → Type 0) (xs : List A) (ys : List B) (i : ℕ) (d : A)
    (y : B) → i < length xs → AllZip R (take i xs) ys → R (get_or xs i d) y
    → AllZip R (take (i + 1) xs) (ys ++ y ∷ [])
zip_next {A} R xs ys i d y less so r =
    subst (λ (some : List A). AllZip R some (ys ++ y ∷ [])) (sym (take_more xs i d less))
    (zip_more R (take i xs) ys (get_or xs i d) y so r)
