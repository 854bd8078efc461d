-- Numbers in a row: where one stands among some that rise, and what is left where one is taken out.
use Rattle.std.proofs.Common.{◌≡◌, ap, subst, sym, ◌∙◌, ⊎_elim, Bool, None, Some, Ok, Err}
use Rattle.std.proofs.Common.{ℕ, suc, ◌+◌, ◌-◌, ◌<◌, ◌≤◌, arith, nat_eq, add-one, List, [], ◌++◌, drop, get_or, length, take}
use Rattle.std.specs.Prelude.{position, remove}
use Rattle.std.specs.List.{position_or_len}
use Rattle.std.specs.List.Sorted.{IsBinarySearchResult}
use Rattle.std.specs.Ordering.{nat_cmp}
use Rattle.std.proofs.Math.Seq.{drop-append-add}
use Rattle.std.proofs.lemmas.Bool.{cases_eq, cases_lt}
use Rattle.std.proofs.lemmas.Bool.Decides.{nat_tests}
use Rattle.std.proofs.lemmas.List.{append-nil, append_assoc, drop_all, drop-append-le, drop-drop, drop-take, get_or-drop, length-append, length-drop, length-take, take-append-le, take-take, take_all}
use Rattle.std.proofs.lemmas.List.Edits.{length-remove}
use Rattle.std.proofs.lemmas.List.Quantifiers.{all_pairs_remove}
use Rattle.std.proofs.lemmas.List.Sorted.{searched}
use Rattle.std.proofs.lemmas.List.Sums.{position_or_len_is}
use Rattle.devqueue.specs.Rows.{IsRising, IsRow}

-- what stands behind some of the numbers rises too
pub rising_behind : (k : ℕ) (numbers : List ℕ) → IsRising numbers → IsRising (drop k numbers)
rising_behind k numbers up i j d before within =
    let long = length-drop k numbers in
    omega (
      arith,
      get_or-drop k numbers i d,
      get_or-drop k numbers j d,
      up (k + i) (k + j) d (omega arith) (omega arith),
    )

-- numbers that rise don't fall
rising_weakly : (numbers : List ℕ) → IsRising numbers → (i j : ℕ) → i ≤ j → j < length numbers
    → get_or numbers i 0 ≤ get_or numbers j 0
rising_weakly numbers up i j before within =
    ⊎_elim
    (λ same. omega (arith, ap (λ k. get_or numbers k 0) same))
    (λ apart. omega (arith, up i j 0 (omega arith) within))
    (cases_eq i j)

-- the first place at which a number stands among some that rise, as a search by halves tells
module _ (numbers : List ℕ) (up : IsRising numbers) (n : ℕ) where
  is_it : ℕ → Bool
  is_it entry = nat_eq entry n

  pub found : (place : ℕ) → IsBinarySearchResult (λ y. nat_cmp y n) numbers (Ok place)
      → Some place ≡ position (λ entry. nat_eq entry n) numbers
  found place is =
      let at = searched numbers n (Ok place) is (rising_weakly numbers up) in
      let first : position_or_len (λ entry. nat_eq entry n) numbers ≡ place =
      position_or_len_is (λ entry. nat_eq entry n) numbers place 0 (omega (arith, at.0))
      (λ k before. grind (arith, nat_tests, up k place 0 before at.0, at.1))
      (λ within. grind (arith, nat_tests, at.1)) in
      rw first (grind (arith, nat_tests, at.0))

  pub missing : (place : ℕ) → IsBinarySearchResult (λ y. nat_cmp y n) numbers (Err place)
      → None ≡ position (λ entry. nat_eq entry n) numbers
  missing place is =
      let at = searched numbers n (Err place) is (rising_weakly numbers up) in
      let first : position_or_len (λ entry. nat_eq entry n) numbers ≡ length numbers =
      position_or_len_is (λ entry. nat_eq entry n) numbers (length numbers) 0 (omega arith)
      (λ k before. ⊎_elim
      (λ below. grind (arith, nat_tests, at.1 k below))
      (λ above. grind (arith, nat_tests, at.2 k above before))
      (cases_lt k place))
      (λ within. absurd (omega (arith, within))) in
      rw first (grind (arith, nat_tests))

-- the numbers behind the first one, where those up to a place moved up by one over the first
pub moved_up : (numbers : List ℕ) (place : ℕ) (moved : List ℕ) → place < length numbers
    → moved ≡ drop (length (take (place + 1) numbers) - 1) (take (place + 1) numbers)
    ++ take (length (take (place + 1) numbers) - 1) (take (place + 1) numbers)
    → drop 1 (moved ++ drop (place + 1) numbers) ≡ remove numbers place
moved_up numbers place moved within is =
    let part = take (place + 1) numbers in
    let long = length-take (place + 1) numbers in
    let last : length part - 1 ≡ place = omega arith in
    let first = length-drop place part in
    let rest = drop (place + 1) numbers in
    let below : take place part ≡ take place numbers =
    take-take place (place + 1) numbers (omega arith) in
    let one : 1 ≡ length (drop place part) + 0 = omega arith in
    ap (λ (m : List ℕ). drop 1 (m ++ rest)) is
    ∙ ap (λ (k : ℕ). drop 1 ((drop k part ++ take k part) ++ rest)) last
    ∙ ap (λ (m : List ℕ). drop 1 m) (append_assoc (drop place part) (take place part) rest)
    ∙ ap (λ (k : ℕ). drop k (drop place part ++ (take place part ++ rest))) one
    ∙ drop-append-add (drop place part) (take place part ++ rest) 0
    ∙ ap (λ (m : List ℕ). m ++ rest) below
    ∙ ap (λ (k : ℕ). take place numbers ++ drop k numbers) (add-one place)

-- and those behind more
pub moved_behind : (numbers part : List ℕ) (gone place : ℕ) → gone + place < length numbers
    → drop 1 part ≡ remove (drop gone numbers) place
    → drop (gone + 1) (take gone numbers ++ part) ≡ remove (drop gone numbers) place
moved_behind numbers part gone place within is =
    let long = length-take gone numbers in
    let count : gone + 1 ≡ length (take gone numbers) + 1 = omega arith in
    ap (λ (k : ℕ). drop k (take gone numbers ++ part)) count
    ∙ drop-append-add (take gone numbers) part 1
    ∙ is

-- and where those behind the first ones were lent, and written back behind these
pub moved_within : (items lent part : List ℕ) (gone place count : ℕ) → lent ≡ items
    → length lent ≡ count → gone + place < length items
    → length part ≡ length (take (length lent - gone) (drop gone lent))
    → drop 1 part ≡ remove (take (length lent - gone) (drop gone lent)) place
    → (let whole = take gone lent ++ (part ++ drop (length lent - gone) (drop gone lent)) in
    drop (gone + 1) (take count (whole ++ drop (length whole) items)))
    ≡ remove (drop gone items) place
moved_within items lent part gone place count is counted within same moved =
    let behind = drop gone lent in
    let long = length-drop gone lent in
    let first = length-take gone lent in
    let fits : gone + place < length lent = rw is within in
    let all : take (length lent - gone) behind ≡ behind =
    take_all (length lent - gone) behind (omega arith) in
    let none : drop (length lent - gone) behind ≡ [] =
    drop_all (length lent - gone) behind (omega arith) in
    let ends : part ++ drop (length lent - gone) behind ≡ part =
    ap (λ (rest : List ℕ). part ++ rest) none ∙ append-nil part in
    let size : length part ≡ length behind = same ∙ ap (λ (xs : List ℕ). length xs) all in
    let taken : drop 1 part ≡ remove behind place =
    moved ∙ ap (λ (xs : List ℕ). remove xs place) all in
    let whole = take gone lent ++ part in
    let size_of_whole = length-append (take gone lent) part in
    ap (λ (xs : List ℕ). drop (gone + 1) (take count ((take gone lent ++ xs)
    ++ drop (length (take gone lent ++ xs)) items))) ends
    ∙ ap (λ (xs : List ℕ). drop (gone + 1) xs)
    (take-append-le count whole (drop (length whole) items) (omega arith)
    ∙ take_all count whole (omega arith))
    ∙ moved_behind lent part gone place fits taken
    ∙ ap (λ (xs : List ℕ). remove (drop gone xs) place) is

-- a place behind the first ones is one of all
pub within_all : (numbers : List ℕ) (gone place : ℕ) → place < length (drop gone numbers)
    → gone + place < length numbers
within_all numbers gone place within = let long = length-drop gone numbers in omega arith

-- where one of those behind the first ones is taken out of all
pub removed_behind : (numbers : List ℕ) (gone place : ℕ) → gone + place < length numbers
    → drop gone (remove numbers (gone + place)) ≡ remove (drop gone numbers) place
removed_behind numbers gone place within =
    let long = length-take (gone + place) numbers in
    let next : gone + suc place ≡ suc (gone + place) = omega arith in
    drop-append-le gone (take (gone + place) numbers) (drop (suc (gone + place)) numbers)
    (omega arith)
    ∙ ap (λ (xs : List ℕ). xs ++ drop (suc (gone + place)) numbers) (drop-take gone place numbers)
    ∙ ap (λ (k : ℕ). take place (drop gone numbers) ++ drop k numbers) (sym next)
    ∙ ap (λ (xs : List ℕ). take place (drop gone numbers) ++ xs)
    (sym (drop-drop (suc place) gone numbers))

-- the row where the first number is taken off
pub without_first : (numbers : List ℕ) (gone capacity : ℕ) (rising : Bool)
    → IsRow numbers gone capacity rising → gone < length numbers
    → IsRow numbers (gone + 1) capacity rising
without_first numbers gone capacity rising row within = record {
  within = omega arith;
  few = omega (arith, row.few);
  placed = row.placed;
  room = row.room;
  rises = λ up. subst IsRising (drop-drop 1 gone numbers)
      (rising_behind 1 (drop gone numbers) (row.rises up));
}

-- and where another one is taken out
pub without_one : (numbers left : List ℕ) (gone left_gone place capacity left_capacity : ℕ)
    (rising : Bool) → IsRow numbers gone capacity rising → place < length (drop gone numbers)
    → drop left_gone left ≡ remove (drop gone numbers) place → left_gone ≤ length left
    → length left ≤ length numbers → capacity ≡ left_capacity
    → IsRow left left_gone left_capacity rising
without_one numbers left gone left_gone place capacity left_capacity rising row within is reached
    less same =
    let count = length-remove (drop gone numbers) place within in
    let before = length-drop gone numbers in
    let after = length-drop left_gone left in
    let equal = ap (λ (xs : List ℕ). length xs) is in
    record {
      within = reached;
      few = omega (arith, row.few, row.within);
      placed = omega (arith, row.placed);
      room = rw (← same) row.room;
      rises = λ up. subst IsRising (sym is)
          (all_pairs_remove (λ x y. x < y) (drop gone numbers) place within (row.rises up));
    }
