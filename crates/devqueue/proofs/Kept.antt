-- Numbers as they are kept: what is read, what is written, and new ones.
use Rattle.std.proofs.Common.{◌≡◌, ◌≢◌, ◌<◌, ◌+◌, ◌-◌, ℕ, List, length, get_or, refl, sym, ap, ◌∙◌, arith, zero, suc, [], ◌∷◌, replicate}
use Rattle.std.proofs.Math.ListN.{set}
use Rattle.std.proofs.lemmas.Grind.{get_or_default_zero}
use Rattle.devqueue.specs.Numbers.{number_kept, numbers_kept}
use Rattle.devqueue.specs.Rings.{after, AreAlone}

pub length_kept : (place : ℕ) (kept : List ℕ) → length (numbers_kept place kept) ≡ length kept
unfolding numbers_kept
length_kept place [] = refl
length_kept place (k ∷ kept) = ap suc (length_kept (suc place) kept)

-- what is read at a place
read_kept : (place : ℕ) (kept : List ℕ) (i n d : ℕ) → i < length kept → place + i ≡ n
    → get_or (numbers_kept place kept) i d ≡ number_kept n (get_or kept i 0)
unfolding numbers_kept
read_kept place [] i n d h at = absurd (omega (arith, h))
read_kept place (k ∷ kept) zero n d h at =
    ap (λ (m : ℕ). number_kept m k) (omega (arith, at))
read_kept place (k ∷ kept) (suc i) n d h at =
    read_kept (suc place) kept i n d (omega (arith, h)) (omega (arith, at))

kept_number : (place number : ℕ) → number_kept place (number + 1) ≡ number
kept_number place number = ap (number_kept place) one
  where
    one : number + 1 ≡ suc number
    one = omega arith

one_less : (x : ℕ) → suc x - 1 ≡ x
one_less x = omega arith

-- what is written at a place
pub written : (place : ℕ) (kept : List ℕ) (i number : ℕ)
    → numbers_kept place (set kept i (number + 1)) ≡ set (numbers_kept place kept) i number
unfolding numbers_kept
written place [] i number = refl
written place (k ∷ kept) zero number =
    ap (λ (n : ℕ). n ∷ numbers_kept (suc place) kept) (kept_number place number)
written place (k ∷ kept) (suc i) number =
    ap (λ (others : List ℕ). number_kept place k ∷ others) (written (suc place) kept i number)

-- where zeros alone are kept, each place has its own number
own : (place count i n : ℕ) → place + i ≡ n
    → get_or (numbers_kept place (replicate count 0)) i n ≡ n
unfolding numbers_kept
own place zero i n at = refl
own place (suc count) zero n at = omega (arith, at)
own place (suc count) (suc i) n at = own (suc place) count i n (omega (arith, at))

many : (place count : ℕ) → length (numbers_kept place (replicate count 0)) ≡ count
unfolding numbers_kept
many place zero = refl
many place (suc count) = ap suc (many (suc place) count)

pub all_own : (count : ℕ) → AreAlone count (numbers_kept 0 (replicate count 0))
all_own count =
    record {
      count = many 0 count;
      nodes = λ n. own 0 count n n (omega arith);
    }

-- the number of a place for which a zero is kept, and of any other
pub read_own : (kept : List ℕ) (i x : ℕ) → i < length kept → x ≡ get_or kept i x → x ≡ 0
    → i ≡ after (numbers_kept 0 kept) i
read_own kept i x h e none =
    sym (read_kept 0 kept i i i h (omega arith)
    ∙ ap (number_kept i) (sym (e ∙ get_or_default_zero kept i x h) ∙ none))

pub read_other : (kept : List ℕ) (i x : ℕ) → i < length kept → x ≡ get_or kept i x → x ≢ 0
    → x - 1 ≡ after (numbers_kept 0 kept) i
read_other kept i zero h e some = absurd (some refl)
read_other kept i (suc x) h e some =
    one_less x ∙ sym (read_kept 0 kept i i i h (omega arith)
    ∙ ap (number_kept i) (sym (e ∙ get_or_default_zero kept i (suc x) h)))
