-- Where walks come to their ends.
use Rattle.std.proofs.Common.{◌≡◌, ◌∙◌, ◌<◌, ◌≤◌, ◌+◌, ◌&&◌, ℕ, zero, suc, Bool, true, false, not, List, Some, None, ap, arith, inl, inr, refl, subst, sym}
use Rattle.std.proofs.lemmas.Bool.{cases_lt}
use Rattle.hunt_walks.specs.Ends.{IsAtEnd, is_rest}

both_so : (a b : Bool) → a ≡ true → b ≡ false → a && not b ≡ true
both_so true false h g = refl
both_so true true h g = cc
both_so false b h g = cc

one_not : (a b : Bool) → b ≡ true → a && not b ≡ false
one_not true true h = refl
one_not false true h = refl
one_not a false h = cc

first_not : (a b : Bool) → a ≡ false → a && not b ≡ false
first_not false b h = refl
first_not true b h = cc

left_so : (a b : Bool) → a && not b ≡ true → a ≡ true
left_so true b h = refl
left_so false b h = cc

right_not : (a b : Bool) → a && not b ≡ true → b ≡ false
right_not true false h = refl
right_not true true h = cc
right_not false b h = cc

module _ (may : List ℕ → ℕ → Bool) (path : List ℕ) where
  pub rest_on : (m : ℕ) → is_rest may path m ≡ true → may path m ≡ false
      → is_rest may path (m + 1) ≡ true
  rest_on m rests none =
      let next : suc m ≡ m + 1 = omega arith in
      subst (λ (n : ℕ). is_rest may path n ≡ true) next
      (both_so (is_rest may path m) (may path m) rests none)

  -- one that may be made is enough
  pub rest_not : (n m : ℕ) → m < n → may path m ≡ true → is_rest may path n ≡ false
  rest_not zero m less h = absurd (omega (arith, less))
  rest_not (suc n) m less h =
      elim (cases_lt m n) [
        | inl under ↦
            first_not (is_rest may path n) (may path n) (rest_not n m under h)
        | inr over ↦
            let same : m ≡ n = omega (arith, less, over) in
            one_not (is_rest may path n) (may path n)
            (subst (λ (k : ℕ). may path k ≡ true) same h)
      ]

  -- and where there is none, none of them may be made
  pub none_may : (n m : ℕ) → is_rest may path n ≡ true → m < n → may path m ≡ false
  none_may zero m rests less = absurd (omega (arith, less))
  none_may (suc n) m rests less =
      elim (cases_lt m n) [
        | inl under ↦
            none_may n m (left_so (is_rest may path n) (may path n) rests) under
        | inr over ↦
            let same : n ≡ m = omega (arith, less, over) in
            subst (λ (k : ℕ). may path k ≡ false) same
            (right_not (is_rest may path n) (may path n) rests)
      ]

  pub rest_by : (n : ℕ) → ((m : ℕ) → m < n → may path m ≡ false) → is_rest may path n ≡ true
  rest_by zero none = refl
  rest_by (suc n) none =
      both_so (is_rest may path n) (may path n)
      (rest_by n (λ m less. none m (omega (arith, less)))) (none n (omega arith))
