-- Small facts on lists: from a place on, and at the end.
use Rattle.laws_runs.proofs.Prelude.{ap, arith, drop, get_or, refl, subst, sym, take, zero, ◌-◌, ◌∙◌, length-append, get_or_from_slice_get, slice_get_within, All, List, Some, [], length, remove, replicate, slice_get, slice_index_or, slice_set, suc, ℕ, ⊤, ◌++◌, ◌+◌, ◌<◌, ◌∷◌, ◌≡◌, ◌≢◌, ◌≤◌}
use Rattle.std.proofs.lemmas.List.{take_all, take_more, take_at}

-- what stands at a place is the first from there on
pub from_here : {A : Type 0} (xs : List A) (p : ℕ) (x : A) → slice_get xs p ≡ Some x
    → drop p xs ≡ x ∷ drop (suc p) xs
from_here [] p x h = cc
from_here {A = A} (y ∷ xs) zero x h = let same : y ≡ x = cc in rw same refl
from_here (y ∷ xs) (suc p) x h = from_here xs p x h

-- a list is what stands before its last element, and that
pub last_split : {A : Type 0} (xs : List A) (x : A) → slice_get xs (length xs - 1) ≡ Some x
    → xs ≡ take (length xs - 1) xs ++ x ∷ []
last_split {A = A} xs x h =
    let i : ℕ = length xs - 1 in
    let within : i < length xs = slice_get_within xs i x h in
    let more : take (i + 1) xs ≡ take i xs ++ get_or xs i x ∷ [] = take_more xs i x within in
    let all : take (i + 1) xs ≡ xs = take_all (i + 1) xs (omega arith) in
    let same : get_or xs i x ≡ x = get_or_from_slice_get xs i x x h in
    sym all ∙ more ∙ ap (λ (y : A). take i xs ++ y ∷ []) same

pub get_at_length : {A : Type 0} (xs : List A) (x : A) → slice_get (xs ++ x ∷ []) (length xs) ≡ Some x
get_at_length [] x = refl
get_at_length (y ∷ xs) x = get_at_length xs x

length_more : {A : Type 0} (xs : List A) (x : A) → length (xs ++ x ∷ []) - 1 ≡ length xs
length_more xs x = let long : length (xs ++ x ∷ []) ≡ length xs + length (x ∷ []) =
    length-append xs (x ∷ []) in let one : length (x ∷ []) ≡ 1 = refl in omega arith

-- the last element of a list, and what stands before it
pub last_of : {A : Type 0} (xs : List A) (x : A)
    → slice_get (xs ++ x ∷ []) (length (xs ++ x ∷ []) - 1) ≡ Some x
last_of xs x = rw (length_more xs x) (get_at_length xs x)

pub before_last : {A : Type 0} (xs : List A) (x : A)
    → take (length (xs ++ x ∷ []) - 1) (xs ++ x ∷ []) ≡ xs
before_last xs x = rw (length_more xs x) (take_at xs (x ∷ []) (length xs) refl)

-- what holds of all elements holds of the one at a place
pub all_at : {A : Type 0} (P : A → Type 0) (xs : List A) (i : ℕ) (x : A) → All P xs
    → slice_get xs i ≡ Some x → P x
all_at {A = A} P xs i x all h =
    subst P (get_or_from_slice_get xs i x x h) (all i x (slice_get_within xs i x h))

-- after a write: at its place, and at another
pub set_same : {A : Type 0} (xs : List A) (i : ℕ) (x y : A) → slice_get xs i ≡ Some x
    → slice_get (slice_set xs i y) i
    ≡ Some y
set_same [] i x y h = cc
set_same (z ∷ xs) zero x y h = refl
set_same (z ∷ xs) (suc i) x y h = set_same xs i x y h

pub set_other : {A : Type 0} (xs : List A) (i j : ℕ) (y : A) → i ≢ j
    → slice_get (slice_set xs i y) j ≡ slice_get xs j
set_other [] i j y h = refl
set_other (z ∷ xs) zero zero y h = absurd (h refl)
set_other (z ∷ xs) zero (suc j) y h = refl
set_other (z ∷ xs) (suc i) zero y h = refl
set_other (z ∷ xs) (suc i) (suc j) y h = set_other xs i j y (λ e. h (ap suc e))

-- a sum over a list: after a write, and of one among all
pub sum_put : {A : Type 0} (count : A → ℕ) (sum : List A → ℕ)
    → ((x : A) (xs : List A) → sum (x ∷ xs) ≡ count x + sum xs) → (xs : List A) (i : ℕ) (x y : A)
    → slice_get xs i ≡ Some x → sum (slice_set xs i y) + count x ≡ sum xs + count y
sum_put count sum more [] i x y h = cc
sum_put count sum more (z ∷ xs) zero x y h =
    let same : z ≡ x = cc in rw (same, more x xs, more y xs) (omega arith)
sum_put count sum more (z ∷ xs) (suc i) x y h =
    let others : sum (slice_set xs i y) + count x ≡ sum xs + count y =
    sum_put count sum more xs i x y h in
    rw (more z (slice_set xs i y), more z xs) (omega arith)

pub sum_le : {A : Type 0} (count : A → ℕ) (sum : List A → ℕ)
    → ((x : A) (xs : List A) → sum (x ∷ xs) ≡ count x + sum xs) → (xs : List A) (i : ℕ) (x : A)
    → slice_get xs i ≡ Some x → count x ≤ sum xs
sum_le count sum more [] i x h = cc
sum_le count sum more (z ∷ xs) zero x h =
    let same : z ≡ x = cc in rw (same, more x xs) (omega arith)
sum_le count sum more (z ∷ xs) (suc i) x h =
    let le : count x ≤ sum xs = sum_le count sum more xs i x h in rw (more z xs) (omega arith)

-- what is copied to a place is still where it came from
copied_as : {A : Type 0} (xs : List A) (r q : ℕ) (d x : A) → slice_index_or xs q d ≡ x
    → slice_index_or (slice_set xs r x) q d ≡ x
copied_as [] r q d x h = h
copied_as (y ∷ xs) zero zero d x h = refl
copied_as (y ∷ xs) zero (suc q) d x h = h
copied_as (y ∷ xs) (suc r) zero d x h = h
copied_as (y ∷ xs) (suc r) (suc q) d x h = copied_as xs r q d x h

pub copied : {A : Type 0} (xs : List A) (r q : ℕ) (d : A)
    → slice_index_or (slice_set xs r (slice_index_or xs q d)) q d ≡ slice_index_or xs q d
copied xs r q d = copied_as xs r q d (slice_index_or xs q d) refl

-- what holds of each element
abbrev pub Each : {A : Type 0} → (A → Type 0) → List A → Type 0
Each P [] = ⊤
Each P (x ∷ xs) = P x × Each P xs

pub each_at : {A : Type 0} (P : A → Type 0) (xs : List A) (i : ℕ) (x : A) → Each P xs
    → slice_get xs i ≡ Some x → P x
each_at P [] i x h there = cc
each_at {A = A} P (y ∷ xs) zero x h there = let same : y ≡ x = cc in subst P same h.0
each_at P (y ∷ xs) (suc i) x h there = each_at P xs i x h.1 there

pub each_set : {A : Type 0} (P : A → Type 0) (xs : List A) (i : ℕ) (y : A) → Each P xs → P y
    → Each P (slice_set xs i y)
each_set P [] i y h one = tt
each_set P (x ∷ xs) zero y h one = (one, h.1)
each_set P (x ∷ xs) (suc i) y h one = (h.0, each_set P xs i y h.1 one)

pub each_push : {A : Type 0} (P : A → Type 0) (xs : List A) (y : A) → Each P xs → P y
    → Each P (xs ++ y ∷ [])
each_push P [] y h one = (one, tt)
each_push P (x ∷ xs) y h one = (h.0, each_push P xs y h.1 one)

pub each_remove : {A : Type 0} (P : A → Type 0) (xs : List A) (i : ℕ) → Each P xs
    → Each P (remove xs i)
each_remove P [] zero h = tt
each_remove P [] (suc i) h = tt
each_remove P (x ∷ xs) zero h = h.1
each_remove P (x ∷ xs) (suc i) h = (h.0, each_remove P xs i h.1)

pub length_removed : {A : Type 0} (xs : List A) (i : ℕ) → length (remove xs i) ≤ length xs
length_removed [] zero = omega arith
length_removed [] (suc i) = omega arith
length_removed (x ∷ xs) zero = omega arith
length_removed (x ∷ xs) (suc i) =
    let less : length (remove xs i) ≤ length xs = length_removed xs i in omega arith

pub each_map : {A : Type 0} (P Q : A → Type 0) (xs : List A) → ((x : A) → P x → Q x) → Each P xs
    → Each Q xs
each_map P Q [] f h = tt
each_map P Q (x ∷ xs) f h = (f x h.0, each_map P Q xs f h.1)

pub each_same : {A : Type 0} (P : A → Type 0) (n : ℕ) (x : A) → P x → Each P (replicate n x)
each_same P zero x h = tt
each_same P (suc n) x h = (h, each_same P n x h)

-- what holds of each of two lists
pub each_append : {A : Type 0} (P : A → Type 0) (xs ys : List A) → Each P xs → Each P ys
    → Each P (xs ++ ys)
each_append P [] ys h g = g
each_append P (x ∷ xs) ys h g = (h.0, each_append P xs ys h.1 g)

pub each_before : {A : Type 0} (P : A → Type 0) (xs ys : List A) → Each P (xs ++ ys) → Each P xs
each_before P [] ys h = tt
each_before P (x ∷ xs) ys h = (h.0, each_before P xs ys h.1)

pub each_take : {A : Type 0} (P : A → Type 0) (k : ℕ) (xs : List A) → Each P xs → Each P (take k xs)
each_take P zero xs h = tt
each_take P (suc k) [] h = tt
each_take P (suc k) (x ∷ xs) h = (h.0, each_take P k xs h.1)

pub each_after : {A : Type 0} (P : A → Type 0) (xs ys : List A) → Each P (xs ++ ys) → Each P ys
each_after P [] ys h = h
each_after P (x ∷ xs) ys h = each_after P xs ys h.1
