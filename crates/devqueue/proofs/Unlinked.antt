-- Where the first entry of a packet stands, and the entries without it.
use Rattle.std.proofs.Common.{◌≡◌, refl, ap, sym, ◌∙◌, Bool, true, false, cond, Option, None, Some}
use Rattle.std.proofs.Common.{ℕ, suc, ◌+◌, arith, one-add, nat_eq, nat_lt, List, [], ◌∷◌, length}
use Rattle.std.specs.Prelude.{◌||◌, is_some, not, remove, position}
use Rattle.std.specs.List.{position_or_len}
use Rattle.std.proofs.lemmas.Bool.Decides.{nat_tests}
use Rattle.model.specs.Queues.{is_linked, unlinked}

-- the place of the first entry, or the number of entries
abbrev pub place_of : List ℕ → ℕ → ℕ
place_of entries n = position_or_len (λ entry. nat_eq entry n) entries

-- a packet without an entry has nothing to be taken off
pub unlinked_nothing : (entries : List ℕ) (n : ℕ) → is_linked entries n ≡ false
    → unlinked entries n ≡ entries
unlinked_nothing [] n h = refl
unlinked_nothing (x ∷ xs) n h = by (nat_eq x n) h (unlinked_nothing xs n)
  where
    by : (b : Bool) → (b || is_linked xs n) ≡ false
        → (is_linked xs n ≡ false → unlinked xs n ≡ xs)
        → cond b xs (x ∷ unlinked xs n) ≡ x ∷ xs
    by true h more = cc
    by false h more = ap (λ (rest : List ℕ). x ∷ rest) (more h)

pub unlinked_place : (entries : List ℕ) (n : ℕ)
    → unlinked entries n ≡ remove entries (place_of entries n)
unlinked_place [] n = refl
unlinked_place (x ∷ xs) n = by (nat_eq x n) (unlinked_place xs n)
  where
    by : (b : Bool) → unlinked xs n ≡ remove xs (place_of xs n)
        → cond b xs (x ∷ unlinked xs n)
        ≡ remove (x ∷ xs) (cond (not b) (1 + place_of xs n) 0)
    by true more = refl
    by false more = rw one-add (ap (λ (rest : List ℕ). x ∷ rest) more)

pub linked_place : (entries : List ℕ) (n : ℕ)
    → is_linked entries n ≡ nat_lt (place_of entries n) (length entries)
linked_place [] n = refl
linked_place (x ∷ xs) n = by (nat_eq x n) (linked_place xs n)
  where
    by : (b : Bool) → is_linked xs n ≡ nat_lt (place_of xs n) (length xs)
        → (b || is_linked xs n)
        ≡ nat_lt (cond (not b) (1 + place_of xs n) 0) (suc (length xs))
    by true more = grind arith
    by false more = rw more (grind (arith, nat_tests))

-- what the search for the first entry tells
module _ (entries : List ℕ) (n : ℕ) where
  abbrev pub searched : Option ℕ
  searched = position (λ entry. nat_eq entry n) entries

  abbrev pub place_if : Bool → Option ℕ
  place_if linked = cond linked (Some (place_of entries n)) None

  linked_searched : place_if (is_linked entries n) ≡ searched
  linked_searched = ap place_if (linked_place entries n)

  none_there : (linked : Bool) → place_if linked ≡ None → linked ≡ false
  none_there true h = cc
  none_there false h = refl

  some_there : (linked : Bool) (place : ℕ) → place_if linked ≡ Some place
      → (linked ≡ true) × (place_of entries n ≡ place)
  some_there true place h = (refl, cc)
  some_there false place h = cc

  pub none_linked : searched ≡ None → is_linked entries n ≡ false
  none_linked h = none_there (is_linked entries n) (linked_searched ∙ h)

  pub none_unlinked : searched ≡ None → unlinked entries n ≡ entries
  none_unlinked h = unlinked_nothing entries n (none_linked h)

  pub some_linked : (place : ℕ) → searched ≡ Some place → is_linked entries n ≡ true
  some_linked place h = (some_there (is_linked entries n) place (linked_searched ∙ h)).0

  pub some_unlinked : (place : ℕ) → searched ≡ Some place
      → unlinked entries n ≡ remove entries place
  some_unlinked place h =
      let there = some_there (is_linked entries n) place (linked_searched ∙ h) in
      rw (← there.1) (unlinked_place entries n)

-- whether it is found tells whether it is there
pub found_linked : (entries : List ℕ) (n : ℕ) → is_some (searched entries n) ≡ is_linked entries n
found_linked entries n =
    sym (ap (λ (place : Option ℕ). is_some place) (linked_searched entries n))
    ∙ by (is_linked entries n)
  where
    by : (linked : Bool) → is_some (place_if entries n linked) ≡ linked
    by true = refl
    by false = refl

pub ruleset first_entry = (none_linked, none_unlinked, some_linked, some_unlinked)
