-- Lists that are paired: looked into, written, cut and put together.
use Rattle.std.proofs.Common.{◌≡◌, ℕ, zero, suc, ◌-◌, List, [], ◌∷◌, ◌++◌, length, take, Option, None, Some, refl, ap, subst}
use Rattle.std.specs.Prelude.{⊤, replicate, slice_get, slice_index_or, slice_set}
use Rattle.laws_slots.specs.Reads.{Paired}

-- what a look-up finds in one belongs to what it finds in the other
abbrev pub PairedOption : {A B : Type 0} → (A → B → Type 0) → Option A → Option B → Type 0
PairedOption R None None = ⊤
PairedOption R None (Some y) = ⊥
PairedOption R (Some x) None = ⊥
PairedOption R (Some x) (Some y) = R x y

module _ {A B : Type 0} (R : A → B → Type 0) where
  pub paired_length : (xs : List A) (ys : List B) → Paired R xs ys → length xs ≡ length ys
  paired_length [] [] h = refl
  paired_length (x ∷ xs) (y ∷ ys) h = ap suc (paired_length xs ys h.1)
  paired_length _ _ h = absurd h

  pub paired_get : (xs : List A) (ys : List B) (i : ℕ) → Paired R xs ys
      → PairedOption R (slice_get xs i) (slice_get ys i)
  paired_get [] [] i h = tt
  paired_get (x ∷ xs) (y ∷ ys) zero h = h.0
  paired_get (x ∷ xs) (y ∷ ys) (suc i) h = paired_get xs ys i h.1
  paired_get _ _ i h = absurd h

  pub paired_index : (xs : List A) (ys : List B) (i : ℕ) (d : A) (e : B) → R d e
      → Paired R xs ys → R (slice_index_or xs i d) (slice_index_or ys i e)
  paired_index [] [] i d e both h = both
  paired_index (x ∷ xs) (y ∷ ys) zero d e both h = h.0
  paired_index (x ∷ xs) (y ∷ ys) (suc i) d e both h = paired_index xs ys i d e both h.1
  paired_index _ _ i d e both h = absurd h

  pub paired_set : (xs : List A) (ys : List B) (i : ℕ) (x : A) (y : B) → Paired R xs ys → R x y
      → Paired R (slice_set xs i x) (slice_set ys i y)
  paired_set [] [] i x y h both = tt
  paired_set (z ∷ xs) (w ∷ ys) zero x y h both = (both, h.1)
  paired_set (z ∷ xs) (w ∷ ys) (suc i) x y h both = (h.0, paired_set xs ys i x y h.1 both)
  paired_set _ _ i x y h both = absurd h

  -- what is left of a list where nothing was written in the other may belong to it all the same
  pub paired_skip : (xs : List A) (ys : List B) (i : ℕ) (x : A) → Paired R xs ys
      → ((y : B) → R x y) → Paired R (slice_set xs i x) ys
  paired_skip [] [] i x h any = tt
  paired_skip (z ∷ xs) (y ∷ ys) zero x h any = (any y, h.1)
  paired_skip (z ∷ xs) (y ∷ ys) (suc i) x h any = (h.0, paired_skip xs ys i x h.1 any)
  paired_skip _ _ i x h any = absurd h

  pub paired_append : (xs : List A) (ys : List B) (us : List A) (vs : List B) → Paired R xs ys
      → Paired R us vs → Paired R (xs ++ us) (ys ++ vs)
  paired_append [] [] us vs h more = more
  paired_append (x ∷ xs) (y ∷ ys) us vs h more = (h.0, paired_append xs ys us vs h.1 more)
  paired_append _ _ us vs h more = absurd h

  paired_take : (n : ℕ) (xs : List A) (ys : List B) → Paired R xs ys
      → Paired R (take n xs) (take n ys)
  paired_take zero xs ys h = tt
  paired_take (suc n) [] [] h = tt
  paired_take (suc n) (x ∷ xs) (y ∷ ys) h = (h.0, paired_take n xs ys h.1)
  paired_take (suc n) _ _ h = absurd h

  pub paired_same : (n : ℕ) (x : A) (y : B) → R x y → Paired R (replicate n x) (replicate n y)
  paired_same zero x y both = tt
  paired_same (suc n) x y both = (both, paired_same n x y both)

  -- the last of each, and what stands before it
  pub paired_before : (xs : List A) (ys : List B) → Paired R xs ys
      → Paired R (take (length xs - 1) xs) (take (length ys - 1) ys)
  paired_before xs ys h =
      subst (λ (n : ℕ). Paired R (take (length xs - 1) xs) (take (n - 1) ys))
      (paired_length xs ys h) (paired_take (length xs - 1) xs ys h)

  pub paired_last : (xs : List A) (ys : List B) → Paired R xs ys
      → PairedOption R (slice_get xs (length xs - 1)) (slice_get ys (length ys - 1))
  paired_last xs ys h =
      subst (λ (n : ℕ). PairedOption R (slice_get xs (length xs - 1)) (slice_get ys (n - 1)))
      (paired_length xs ys h) (paired_get xs ys (length xs - 1) h)

  -- what is found in the second has what it belongs to in the first
  pub record Partner (o : Option A) (y : B) : Type 0 where
    pub one : A
    pub at : o ≡ Some one
    pub belongs : R one y

  pub partner : (o : Option A) (p : Option B) (y : B) → PairedOption R o p → p ≡ Some y
      → Partner o y
  partner None None y h is = cc
  partner (Some x) (Some z) y h is =
      let same : z ≡ y = cc in
      record { one = x; at = refl; belongs = subst (λ (b : B). R x b) same h }
  partner _ _ y h is = absurd h
