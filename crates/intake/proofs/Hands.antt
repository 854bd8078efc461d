-- Views of passes: one of them is changed or one more comes, and what they add up to.
use Rattle.std.proofs.Common.{◌≡◌, ◌≢◌, ℕ, zero, suc, ◌+◌, ◌<◌, ◌≤◌, ◌⊎◌, inl, inr, ⊎_elim, List, [], ◌∷◌, ◌++◌, length, set, get_or, sym, refl, ap, subst, arith}
use Rattle.std.specs.List.{sum_by}
use Rattle.std.proofs.lemmas.List.{length-set}
use Rattle.std.proofs.lemmas.List.Sums.{sum_by-set, sum_by-cons}
use mathlib.Core.Option.{some, some-ne-none, some-injective}
use lib.ListN.{get_elem?}
use Rattle.crossbeam_queue.proofs.Lists.{at_set}
use Rattle.model.specs.History.{NamedCommand}
use Rattle.intake.specs.declared.rule.Hand.{Hand}
use Rattle.intake.specs.Rule.{Fits}

pub within : (l : List Hand) (i : ℕ) (a : Hand) → get_elem? l i ≡ some a → i < length l
within [] i a e = absurd (some-ne-none a (sym e))
within (x ∷ xs) zero a e = omega arith
within (x ∷ xs) (suc i) a e = let h = within xs i a e in omega arith

there : (l : List Hand) (i : ℕ) (a : Hand) → get_elem? l i ≡ some a → get_or l i a ≡ a
there [] i a e = absurd (some-ne-none a (sym e))
there (x ∷ xs) zero a e = some-injective x a e
there (x ∷ xs) (suc i) a e = there xs i a e

-- at the end of a longer list stands what was added
pub at_end : (l : List Hand) (a b : Hand) (j : ℕ) → get_elem? (l ++ a ∷ []) j ≡ some b
    → (get_elem? l j ≡ some b) ⊎ ((j ≡ length l) × (a ≡ b))
at_end [] a b zero e = inr (refl, some-injective a b e)
at_end [] a b (suc j) e = absurd (some-ne-none b (sym e))
at_end (x ∷ xs) a b zero e = inl e
at_end (x ∷ xs) a b (suc j) e =
    ⊎_elim (λ h. inl h) (λ h. inr (ap suc h.0, h.1)) (at_end xs a b j e)

-- what holds of the changed view and of all others holds of each
pub each_set : (F : ℕ → Hand → Type 0) (views : List Hand) (port : ℕ) (w : Hand) → F port w
    → ((j : ℕ) (u : Hand) → j ≢ port → get_elem? views j ≡ some u → F j u)
    → (j : ℕ) (u : Hand) → get_elem? (set views port w) j ≡ some u → F j u
each_set F views port w mine others j u e =
    ⊎_elim (λ (x : (j ≡ port) × (w ≡ u)).
    subst (λ (y : ℕ × Hand). F y.0 y.1) (λ i. (sym x.0 i, x.1 i)) mine)
    (λ (x : (j ≢ port) × (get_elem? views j ≡ some u)). others j u x.0 x.1)
    (at_set views port j w u e)

-- what the rule says of the changed view and of all others, where there are as many as before
pub each_fits : (items : List NamedCommand) (counts : ℕ → ℕ) (views : List Hand) (number : ℕ)
    (w : Hand) → Fits items (length views) counts number w
    → ((j : ℕ) (u : Hand) → j ≢ number → get_elem? views j ≡ some u
    → Fits items (length views) counts j u)
    → (j : ℕ) (u : Hand) → get_elem? (set views number w) j ≡ some u
    → Fits items (length (set views number w)) counts j u
each_fits items counts views number w mine others j u e =
    let F : ℕ → Hand → Type 0 = Fits items (length views) counts in
    subst (λ n. Fits items n counts j u) (sym (length-set views number w))
    (each_set F views number w mine others j u e)

-- a sum over all views after one of them is changed
pub total_set : (f : Hand → ℕ) (views : List Hand) (port : ℕ) (v w : Hand)
    → get_elem? views port ≡ some v
    → sum_by f (set views port w) + f v ≡ sum_by f views + f w
total_set f views port v w e =
    let s = sum_by-set f views port w v (within views port v e) in
    let t = ap f (there views port v e) in
    omega (arith, s, t)

-- views without shares count for nothing
abbrev pub share : Hand → ℕ
share v = v.shares

abbrev pub IsIdle : (Hand → ℕ) → List Hand → Type 0
IsIdle f views =
    (j : ℕ) (u : Hand) → get_elem? views j ≡ some u → u.shares ≡ 0 → f u ≡ 0

none_left : (f : Hand → ℕ) (views : List Hand) → IsIdle f views → sum_by share views ≡ 0
    → sum_by f views ≡ 0
none_left f [] idle e = refl
none_left f (x ∷ xs) idle e =
    let s = sum_by-cons share x xs in
    let t = sum_by-cons f x xs in
    let none : x.shares ≡ 0 = omega (arith, s, e) in
    let here : f x ≡ 0 = idle 0 x refl none in
    let rest = none_left f xs (λ j u at. idle (suc j) u at) (omega (arith, s, e)) in
    omega (arith, t, here, rest)

share_within : (views : List Hand) (port : ℕ) (v : Hand) → get_elem? views port ≡ some v
    → v.shares ≤ sum_by share views
share_within [] port v e = absurd (some-ne-none v (sym e))
share_within (x ∷ xs) zero v e =
    let s = sum_by-cons share x xs in
    let t = ap share (some-injective x v e) in
    omega (arith, s, t)
share_within (x ∷ xs) (suc port) v e =
    let s = sum_by-cons share x xs in
    let t = share_within xs port v e in
    omega (arith, s, t)

-- where one view has all shares, a sum over all views is its own
pub whole : (f : Hand → ℕ) (views : List Hand) (port : ℕ) (v : Hand)
    → get_elem? views port ≡ some v → IsIdle f views → sum_by share views ≡ v.shares
    → sum_by f views ≡ f v
whole f [] port v e idle all = absurd (some-ne-none v (sym e))
whole f (x ∷ xs) zero v e idle all =
    let s = sum_by-cons share x xs in
    let t = sum_by-cons f x xs in
    let same = some-injective x v e in
    let a = ap share same in
    let b = ap f same in
    let rest = none_left f xs (λ j u at. idle (suc j) u at) (omega (arith, s, a, all)) in
    omega (arith, t, b, rest)
whole f (x ∷ xs) (suc port) v e idle all =
    let s = sum_by-cons share x xs in
    let t = sum_by-cons f x xs in
    let least = share_within xs port v e in
    let none : x.shares ≡ 0 = omega (arith, s, least, all) in
    let here : f x ≡ 0 = idle 0 x refl none in
    let rest = whole f xs port v e (λ j u at. idle (suc j) u at) (omega (arith, s, none, all)) in
    omega (arith, t, here, rest)
