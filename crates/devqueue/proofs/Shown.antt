-- What rings show: walks along them are the lists.
use Rattle.std.proofs.Common.{◌≡◌, ◌<◌, ◌≤◌, ◌+◌, ◌-◌, ℕ, zero, suc, Bool, true, false, List, [], ◌∷◌, length, get_or, refl, sym, ap, ◌∙◌, arith, nat_eq, eqb, ◌⊎◌, inl, inr, Option, None, Some}
use Rattle.std.specs.Prelude.{◌||◌}
use Rattle.std.specs.List.{AllByRecursion, IsDistinct, list_any}
use Rattle.std.proofs.lemmas.Bool.{cases_lt, le-ltb, lt-ltb}
use Rattle.std.proofs.lemmas.Bool.Decides.{eqb_tells}
use Rattle.std.proofs.lemmas.List.{get_or_past}
use Rattle.std.proofs.lemmas.Map.Steps.{length-le_from_distinct_below}
use Rattle.model.specs.Queues.{is_linked}
use Rattle.devqueue.specs.Rings.{after}
use Rattle.devqueue.specs.Linked.{AreLinked, IsOnce, Path, is_list, lists_shown, walk, walks}
use Rattle.devqueue.proofs.Paths.{not_head}

-- numbers that stand once, each below a bound, are no more than the bound
turned_eq : (a b : ℕ) → nat_eq a b ≡ false → eqb b a ≡ false
turned_eq a b h =
    elim (eqb_tells b a) [
      | inl p ↦ elim (eqb_tells a b) [ inl q ↦ cc | inr q ↦ absurd (q.1 (sym p.1)) ]
      | inr p ↦ p.0
    ]

apart_all : (x : ℕ) (xs : List ℕ) → is_linked xs x ≡ false
    → AllByRecursion (λ y. eqb x y ≡ false) xs
apart_all x [] h = tt
apart_all x (y ∷ xs) h =
    let p = not_head y x xs h in
    (turned_eq y x p.0, apart_all x xs p.1)

once_distinct : (xs : List ℕ) → IsOnce xs → IsDistinct eqb xs
unfolding IsDistinct
once_distinct [] h = tt
once_distinct (x ∷ xs) h = (apart_all x xs h.0, once_distinct xs h.1)

any_turned : (q : ℕ) (xs : List ℕ) → list_any (eqb q) xs ≡ is_linked xs q
any_turned q [] = refl
any_turned q (x ∷ xs) =
    elim (eqb_tells q x) [
      | inl p ↦ elim (eqb_tells x q) [
        | inl t ↦ rw (p.0, t.0) refl
        | inr t ↦ absurd (t.1 (sym p.1))
      ]
      | inr p ↦ elim (eqb_tells x q) [
        | inl t ↦ absurd (p.1 (sym t.1))
        | inr t ↦ rw (p.0, t.0) (any_turned q xs)
      ]
    ]

bounded : (xs : List ℕ) (n : ℕ) → IsOnce xs → ((q : ℕ) → is_linked xs q ≡ true → q < n)
    → length xs ≤ n
bounded xs n once below =
    length-le_from_distinct_below xs n (once_distinct xs once)
    (λ q h. below q (sym (any_turned q xs) ∙ h))

pub in_tail : (b x : Bool) → x ≡ true → (b || x) ≡ true
in_tail true x h = refl
in_tail false x h = h

-- a walk along a path
walk_path : (f : ℕ → ℕ) (slots most from : ℕ) (ns : List ℕ) (to : ℕ) → Path f from ns to
    → slots ≤ to → ((n : ℕ) → is_linked ns n ≡ true → n < slots) → length ns ≤ most
    → walk f slots most from ≡ ns
unfolding walk
walk_path f slots zero from [] to p past below fits = refl
walk_path f slots zero from (n ∷ ns) to p past below fits = absurd (omega arith)
walk_path f slots (suc most) from [] to p past below fits =
    rw p (rw (le-ltb to slots past) refl)
walk_path f slots (suc most) from (n ∷ ns) to p past below fits =
    let here : is_linked (n ∷ ns) n ≡ true =
    elim (eqb_tells n n) [ inl t ↦ rw t.0 refl | inr t ↦ absurd (t.1 refl) ] in
    rw p.0 (rw (lt-ltb n slots (below n here))
    (ap (λ (rest : List ℕ). n ∷ rest)
    (walk_path f slots most n ns to p.1 past
    (λ m h. below m (in_tail (nat_eq n m) (is_linked ns m) h)) (omega arith))))

walks_lists : (f : ℕ → ℕ) (slots node : ℕ) (lists : List (List ℕ))
    → ((l : ℕ) → l < length lists → walk f slots slots (node + l) ≡ get_or lists l [])
    → walks f slots (length lists) node ≡ lists
unfolding walks
walks_lists f slots node [] h = refl
walks_lists f slots node (ns ∷ lists) h =
    let one : walk f slots slots node ≡ ns =
    (let e : node ≡ node + 0 = omega arith in
    ap (walk f slots slots) e ∙ h 0 (omega arith)) in
    let more : walks f slots (length lists) (suc node) ≡ lists =
    walks_lists f slots (suc node) lists
    (λ l w. (let e : suc node + l ≡ node + suc l = omega arith in
    ap (walk f slots slots) e ∙ h (suc l) (omega arith))) in
    rw (one, more) refl

module _ (nodes : List ℕ) (list_of : List (Option ℕ)) (lists : List (List ℕ))
    (linked : AreLinked nodes list_of lists) where
  listed_some : (l : ℕ) (o : Option ℕ) → is_list l o ≡ true → o ≡ Some l
  listed_some l None h = cc
  listed_some l (Some k) h =
      elim (eqb_tells k l) [ inl p ↦ rw p.1 refl | inr p ↦ cc ]

  -- the list of a slot that is in a list
  pub listed_at : (l s : ℕ) → is_linked (get_or lists l []) s ≡ true
      → get_or list_of s None ≡ Some l
  listed_at l s h = listed_some l (get_or list_of s None) (sym (linked.listed l s) ∙ h)

  pub listed_within : (l s : ℕ) → is_linked (get_or lists l []) s ≡ true → s < length list_of
  listed_within l s h = by (cases_lt s (length list_of))
    where
      by : (s < length list_of) ⊎ (length list_of ≤ s) → s < length list_of
      by (inl p) = p
      by (inr p) =
          let past : get_or list_of s None ≡ None = get_or_past list_of s None p in
          let at = listed_at l s h in
          absurd (cc)

  pub list_within : (l s : ℕ) → is_linked (get_or lists l []) s ≡ true → l < length lists
  list_within l s h = by (cases_lt l (length lists))
    where
      by : (l < length lists) ⊎ (length lists ≤ l) → l < length lists
      by (inl p) = p
      by (inr p) =
          let none : get_or lists l [] ≡ [] = get_or_past lists l [] p in
          let at : is_linked [] s ≡ true =
          ap (λ (ns : List ℕ). is_linked ns s) (sym none) ∙ h in
          absurd (cc)

  one_walk : (l : ℕ) → l < length lists
      → walk (after nodes) (length list_of) (length list_of) (length list_of + l)
      ≡ get_or lists l []
  one_walk l w =
      walk_path (after nodes) (length list_of) (length list_of) (length list_of + l)
      (get_or lists l []) (length list_of + l) (linked.paths l w) (omega arith)
      (λ n h. listed_within l n h)
      (bounded (get_or lists l []) (length list_of) (linked.once l)
      (λ n h. listed_within l n h))

  -- the lists that are shown
  pub shown : lists_shown nodes list_of ≡ lists
  unfolding lists_shown
  shown =
      let count : length nodes - length list_of ≡ length lists = omega (arith, linked.count) in
      rw count (walks_lists (after nodes) (length list_of) (length list_of) lists one_walk)
