-- Seats that are given out and come back, one after another.
use Rattle.std.proofs.Common.{◌≡◌, ℕ, zero, suc, ◌+◌, ◌<◌, inl, inr, List, [], ◌∷◌, ◌++◌, Option, None, Some, add-one, drop, get_or, length, refl, sym, subst, ap, ◌∙◌, arith}
use Rattle.std.specs.Prelude.{remove, slice_get, slice_set}
use Rattle.std.specs.List.{range_with_len}
use Rattle.std.proofs.lemmas.Bool.Decides.{eqb_tells}
use Rattle.std.proofs.lemmas.List.FromFn.{map-range_with_len_more}
use Rattle.std.proofs.lemmas.Option.{slice_get-get_or}
use Rattle.std.proofs.Math.ListN.{length-set}
use Rattle.laws_runs.proofs.Lists.{set_other, set_same}
use Rattle.hostcore.specs.Core.{CoreState, count_of}
use Rattle.workers.specs.Kept.{AreBack, AreGiven, counts_of}

-- a core with other seats
abbrev reseated : CoreState → ℕ → Option ℕ → CoreState
reseated c t seat = record c { seats = slice_set c.seats t seat }

pub none_given : (c : CoreState) → AreGiven 0 c c
none_given c = record {
  same = refl;
  given = λ i few. absurd (omega (arith, few));
  others = λ i past. refl;
}

pub none_back : (c : CoreState) → AreBack 0 c c
none_back c = record {
  same = refl;
  back = λ i few. absurd (omega (arith, few));
  others = λ i past. refl;
}

module _ (n : ℕ) (before c : CoreState) where
  -- the seats before a place and the one at it
  upto : (P : ℕ → Type 0) → ((i : ℕ) → i < n → P i) → P n → (i : ℕ) → i < n + 1 → P i
  upto P below here i few =
      elim (eqb_tells n i) [
        | inl p ↦ subst P p.1 here
        | inr p ↦ below i (let apart = p.1 in omega arith)
      ]

  pub one_given : AreGiven n before c → slice_get c.seats n ≡ Some None
      → AreGiven (n + 1) before (reseated c n (Some 0))
  one_given are free =
      let put : List (Option ℕ) = slice_set c.seats n (Some 0) in
      record {
        same = ap (λ (d : CoreState). record d { seats = slice_set c.seats n (Some 0) }) are.same;
        given = upto (λ i. slice_get put i ≡ Some (Some 0))
            (λ i few. set_other c.seats n i (Some 0) (λ same. absurd (omega (arith, few, same)))
            ∙ are.given i few)
            (set_same c.seats n None (Some 0) free);
        others = λ i past. set_other c.seats n i (Some 0) (λ same. absurd (omega (arith, past, same)))
            ∙ are.others i (omega (arith, past));
      }

  pub one_back : AreBack n before c → n < length c.seats
      → AreBack (n + 1) before (reseated c n None)
  one_back are there =
      let put : List (Option ℕ) = slice_set c.seats n None in
      record {
        same = ap (λ (d : CoreState). record d { seats = slice_set c.seats n None }) are.same;
        back = upto (λ i. slice_get put i ≡ Some None)
            (λ i few. set_other c.seats n i None (λ same. absurd (omega (arith, few, same)))
            ∙ are.back i few)
            (set_same c.seats n (get_or c.seats n None) None
            (slice_get-get_or c.seats n None there));
        others = λ i past. set_other c.seats n i None (λ same. absurd (omega (arith, past, same)))
            ∙ are.others i (omega (arith, past));
      }

-- there are as many seats as before
pub still_long : (c : CoreState) (t : ℕ) (seat : Option ℕ)
    → length (reseated c t seat).seats ≡ length c.seats
still_long c t seat = length-set c.seats t seat

-- the first of the seats that are left
pub first_left : (xs : List ℕ) (k x : ℕ) → xs ≡ range_with_len k (length xs) → 0 < length xs
    → x ≡ get_or xs 0 x → x ≡ k
first_left [] k x are some read = absurd (omega (arith, some))
first_left (y ∷ xs) k x are some read =
    let same : y ≡ k = ap (λ (ys : List ℕ). get_or ys 0 0) are in
    read ∙ same

pub rest_left : (xs : List ℕ) (k : ℕ) → xs ≡ range_with_len k (length xs) → 0 < length xs
    → remove xs 0 ≡ range_with_len (k + 1) (length (remove xs 0))
rest_left [] k are some = absurd (omega (arith, some))
rest_left (y ∷ xs) k are some = ap (λ (ys : List ℕ). drop 1 ys) are

pub one_count : (before c : CoreState) (k x : ℕ) (counts : List ℕ) → AreBack k before c
    → counts ≡ counts_of before k → x ≡ count_of (slice_get c.seats k)
    → counts ++ x ∷ [] ≡ counts_of before (k + 1)
one_count before c k x counts are so_far here =
    let f : ℕ → ℕ = λ i. count_of (slice_get before.seats i) in
    let same : x ≡ f k = here ∙ ap count_of (are.others k (omega arith)) in
    ap (λ (xs : List ℕ). xs ++ x ∷ []) so_far
    ∙ (ap (λ (y : ℕ). counts_of before k ++ y ∷ []) same
    ∙ sym (map-range_with_len_more f 0 k k (omega arith)))

range_more : (from n : ℕ)
    → range_with_len from (suc n) ≡ range_with_len from n ++ (from + n) ∷ []
range_more from zero = ap (λ (k : ℕ). k ∷ []) (let same : from ≡ from + 0 = omega arith in same)
range_more from (suc n) =
    let same : from + 1 + n ≡ from + suc n = omega arith in
    ap (λ (xs : List ℕ). from ∷ xs) (range_more (from + 1) n
    ∙ ap (λ (k : ℕ). range_with_len (from + 1) n ++ k ∷ []) same)

-- one place more
pub range_next : (n : ℕ) → range_with_len 0 (n + 1) ≡ range_with_len 0 n ++ n ∷ []
range_next n =
    let same : 0 + n ≡ n = omega arith in
    ap (range_with_len 0) (add-one n)
    ∙ (range_more 0 n ∙ ap (λ (k : ℕ). range_with_len 0 n ++ k ∷ []) same)
