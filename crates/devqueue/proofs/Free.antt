-- A slot is in no list exactly where no list is kept for it; and what is first of a list.
use Rattle.std.proofs.Common.{◌≡◌, ℕ, zero, suc, Bool, true, false, List, [], ◌∷◌, get_or, refl, ap, ◌∙◌, is_some, Option, None, Some, inl, inr, ◌<◌, length}
use Rattle.std.specs.Prelude.{not}
use Rattle.std.specs.List.{list_any}
use Rattle.std.proofs.lemmas.Bool.{cases_lt, eq-eqb}
use Rattle.std.proofs.lemmas.List.{get_or_past}
use Rattle.model.specs.Queues.{is_linked}
use Rattle.devqueue.specs.Linked.{AreLinked, is_list}
use Rattle.devqueue.proofs.Shown.{in_tail}

pub none_has : (s : ℕ) (lists : List (List ℕ))
    → ((l : ℕ) → is_linked (get_or lists l []) s ≡ false)
    → list_any (λ entries. is_linked entries s) lists ≡ false
none_has s [] h = refl
none_has s (ns ∷ lists) h = rw (h 0) (none_has s lists (λ l. h (suc l)))

pub one_has : (s l : ℕ) (lists : List (List ℕ)) → is_linked (get_or lists l []) s ≡ true
    → list_any (λ entries. is_linked entries s) lists ≡ true
one_has s l [] h = cc
one_has s zero (ns ∷ lists) h = rw h refl
one_has s (suc l) (ns ∷ lists) h = in_tail (is_linked ns s) _ (one_has s l lists h)

-- a slot that none of the lists has is in each of them not
pub none_has_one : (s l : ℕ) (lists : List (List ℕ))
    → list_any (λ entries. is_linked entries s) lists ≡ false
    → is_linked (get_or lists l []) s ≡ false
none_has_one s l lists none = by (is_linked (get_or lists l []) s) refl
  where
    by : (b : Bool) → is_linked (get_or lists l []) s ≡ b → is_linked (get_or lists l []) s ≡ false
    by false is = is
    by true is = let one = one_has s l lists is in absurd (cc)

module _ (nodes : List ℕ) (list_of : List (Option ℕ)) (lists : List (List ℕ))
    (linked : AreLinked nodes list_of lists) (s : ℕ) where
  abbrev is_in : Bool
  is_in = list_any (λ entries. is_linked entries s) lists

  pub free_none : get_or list_of s None ≡ None → is_in ≡ false
  free_none h = none_has s lists (λ l. linked.listed l s ∙ ap (is_list l) h)

  pub free_some : (l : ℕ) → get_or list_of s None ≡ Some l → is_in ≡ true
  free_some l h =
      one_has s l lists (linked.listed l s ∙ ap (is_list l) h ∙ eq-eqb l l refl)

  pub none_free : is_in ≡ false → get_or list_of s None ≡ None
  none_free h = by (get_or list_of s None) refl
    where
      by : (o : Option ℕ) → get_or list_of s None ≡ o → get_or list_of s None ≡ None
      by None e = e
      by (Some l) e = let y = free_some l e in absurd (cc)

  -- a slot that is in a list is one of the slots
  pub some_within : not is_in ≡ false → s < length list_of
  some_within h =
      elim (cases_lt s (length list_of)) [
        | inl within ↦ within
        | inr past ↦
            let none = free_none (get_or_past list_of s None past) in
            absurd (let full = rw none at h in cc)
      ]

  pub tells_free : (o : Option ℕ) → get_or list_of s None ≡ o → (b : Bool)
      → is_some o ≡ not b → b ≡ not is_in
  tells_free None e true h = rw (free_none e) refl
  tells_free None e false h = cc
  tells_free (Some l) e true h = cc
  tells_free (Some l) e false h = rw (free_some l e) refl
