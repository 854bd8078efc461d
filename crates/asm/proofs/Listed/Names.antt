-- The names of a listing: a letter and a number, counted from a number on.
use Rattle.std.proofs.Common.{◌≡◌, ◌≢◌, ℕ, zero, suc, ◌+◌, ◌<◌, ◌≤◌, Bool, true, false, List, [], ◌∷◌, ◌++◌, length, Some, refl, ap, arith}
use Rattle.std.specs.Prelude.{bytes_eq, nat_lt}
use Rattle.std.specs.List.{position_or_len}
use Rattle.std.proofs.lemmas.Bool.Decides.{nat_tests}
use Rattle.std.proofs.lemmas.Slice.Eq.{bytes_eq-Decides}
use Rattle.asm.specs.Outline.{is_among, number_of}
use Rattle.asm_line.specs.ListedWords.{numbered}
use Rattle.asm_line.proofs.Digits.{same_number, IsSmall}

abbrev pub names_from : ℕ → ℕ → ℕ → List (List ℕ)
names_from letter j zero = []
names_from letter j (suc c) = numbered letter j ∷ names_from letter (j + 1) c

-- one name more
pub names_more : (letter j c p : ℕ) → p ≡ j + c
    → names_from letter j c ++ numbered letter p ∷ [] ≡ names_from letter j (suc c)
names_more letter j zero p is =
    let same : p ≡ j = omega (arith, is) in ap (λ q. numbered letter q ∷ []) same
names_more letter j (suc c) p is =
    ap (λ ns. numbered letter j ∷ ns) (names_more letter (j + 1) c p (omega (arith, is)))

pub length_names : (letter j c : ℕ) → length (names_from letter j c) ≡ c
length_names letter j zero = refl
length_names letter j (suc c) = ap (λ n. suc n) (length_names letter (j + 1) c)

pub same_bytes : (xs : List ℕ) → bytes_eq xs xs ≡ true
same_bytes xs = (bytes_eq-Decides xs xs).1 refl

other_bytes : (b : Bool) (xs ys : List ℕ) → bytes_eq xs ys ≡ b → xs ≢ ys → bytes_eq xs ys ≡ false
other_bytes true xs ys is other = absurd (other ((bytes_eq-Decides xs ys).0 is))
other_bytes false xs ys is other = is

-- names with different numbers differ
pub differ : (letter m n : ℕ) → IsSmall m → IsSmall n → m ≢ n
    → bytes_eq (numbered letter m) (numbered letter n) ≡ false
differ letter m n first second other =
    other_bytes (bytes_eq (numbered letter m) (numbered letter n)) (numbered letter m)
    (numbered letter n) refl (λ is. other (same_number letter m n first second is))

-- a name past the last isn't among them
pub fresh : (letter j c p : ℕ) → IsSmall p → j + c ≤ p
    → is_among (names_from letter j c) (numbered letter p) ≡ false
fresh letter j zero p small past = refl
fresh letter j (suc c) p small past =
    rw (differ letter p j small (omega (arith, small, past))
    (λ is. absurd (omega (arith, is, past))))
    (fresh letter (j + 1) c p small (omega (arith, past)))

place : (letter j c i p : ℕ) → IsSmall p → p ≡ j + i → i < c
    → position_or_len (bytes_eq (numbered letter p)) (names_from letter j c) ≡ i
place letter j zero i p small is inside = absurd (omega (arith, inside))
place letter j (suc c) zero p small is inside =
    let same : p ≡ j = omega (arith, is) in rw (same, same_bytes (numbered letter j)) refl
place letter j (suc c) (suc i) p small is inside =
    rw (
      differ letter p j small (omega (arith, small, is)) (λ same. absurd (omega (arith, same, is))),
      place letter (j + 1) c i p small (omega (arith, is)) (omega (arith, inside)),
    )
    (omega arith)

-- a name's number is its place among them
pub numbered_as : (letter c p : ℕ) → IsSmall p → p < c
    → number_of (names_from letter 0 c) (numbered letter p) ≡ Some p
numbered_as letter c p small inside =
    let test : nat_lt p c ≡ true = grind (arith, nat_tests) in
    rw (place letter 0 c p p small (omega arith) inside, length_names letter 0 c, test) refl

among : (letter j c i p : ℕ) → IsSmall p → p ≡ j + i → i < c
    → is_among (names_from letter j c) (numbered letter p) ≡ true
among letter j zero i p small is inside = absurd (omega (arith, inside))
among letter j (suc c) zero p small is inside =
    let same : p ≡ j = omega (arith, is) in rw (same, same_bytes (numbered letter j)) refl
among letter j (suc c) (suc i) p small is inside =
    rw (differ letter p j small (omega (arith, small, is))
    (λ same. absurd (omega (arith, same, is))))
    (among letter (j + 1) c i p small (omega (arith, is)) (omega (arith, inside)))

pub is_known_name : (letter c p : ℕ) → IsSmall p → p < c
    → is_among (names_from letter 0 c) (numbered letter p) ≡ true
is_known_name letter c p small inside = among letter 0 c p p small (omega arith) inside
