-- What the counts of all threads add up to, and what all workers keep.
use Rattle.std.proofs.Common.{◌≡◌, ◌≢◌, ℕ, zero, suc, ◌+◌, ◌<◌, ◌≤◌, inl, inr, Bool, List, [], ◌∷◌, Option, None, Some, cond, length, map, replicate, refl, ap, ◌∙◌, arith}
use Rattle.std.specs.Prelude.{All, IfSome, nat_eq, slice_get, sum}
use Rattle.std.specs.List.{range_with_len}
use Rattle.std.proofs.lemmas.Bool.{ne_eqb}
use Rattle.std.proofs.lemmas.Bool.Decides.{eqb_tells}
use Rattle.std.proofs.lemmas.List.Sums.{sum_by-cons}
use Rattle.model.specs.declared.history.Entry.{Entry}
use Rattle.model.specs.History.{NamedCommand}
use Rattle.workers.specs.declared.locked.Held.{Held}
use Rattle.workers.specs.Kept.{kept_by, kept_of}
use Rattle.workers.specs.Serves.{gathered}
use Rattle.workers.specs.Worked.{count_of_thread}

-- the same function on some numbers gives the same list
pub map_within : (f g : ℕ → ℕ) (from n : ℕ)
    → ((i : ℕ) → from ≤ i → i < from + n → f i ≡ g i)
    → map f (range_with_len from n) ≡ map g (range_with_len from n)
map_within f g from zero same = refl
map_within f g from (suc n) same =
    let first : f from ≡ g from = same from (omega arith) (omega arith) in
    let rest : map f (range_with_len (from + 1) n) ≡ map g (range_with_len (from + 1) n) = map_within f g (from + 1) n (λ i low high. same i (omega (arith, low)) (omega (arith, high))) in
    cc

abbrev sum_over : (ℕ → ℕ) → ℕ → ℕ → ℕ
sum_over f from n = sum (map f (range_with_len from n))

sum_first : (f : ℕ → ℕ) (from n : ℕ) → sum_over f from (suc n) ≡ f from + sum_over f (from + 1) n
sum_first f from n = sum_by-cons (λ (x : ℕ). x) (f from) (map f (range_with_len (from + 1) n))

sum_nothing : (from n : ℕ) → sum_over (λ i. 0) from n ≡ 0
sum_nothing from zero = refl
sum_nothing from (suc n) =
    let first = sum_first (λ i. 0) from n in
    let rest = sum_nothing (from + 1) n in
    omega arith

sum_both : (f g h : ℕ → ℕ) → ((i : ℕ) → f i ≡ g i + h i) → (from n : ℕ)
    → sum_over f from n ≡ sum_over g from n + sum_over h from n
sum_both f g h same from zero = refl
sum_both f g h same from (suc n) =
    let one = sum_first f from n in
    let two = sum_first g from n in
    let three = sum_first h from n in
    let here = same from in
    let rest = sum_both f g h same (from + 1) n in
    omega arith

-- one, at the thread itself
abbrev at_thread : ℕ → ℕ → ℕ
at_thread t i = cond (nat_eq t i) 1 0

sum_before : (t from n : ℕ) → t < from → sum_over (at_thread t) from n ≡ 0
sum_before t from zero before = refl
sum_before t from (suc n) before =
    let here : at_thread t from ≡ 0 = ap (λ (b : Bool). cond b 1 0) (ne_eqb t from (λ same. absurd (omega (arith, before, same)))) in
    let first = sum_first (at_thread t) from n in
    let rest = sum_before t (from + 1) n (omega (arith, before)) in
    omega arith

sum_one : (t from n : ℕ) → from ≤ t → t < from + n → sum_over (at_thread t) from n ≡ 1
sum_one t from zero low high = absurd (omega (arith, low, high))
sum_one t from (suc n) low high =
    let first = sum_first (at_thread t) from n in
    elim (eqb_tells t from) [
      | inl p ↦
          let here : at_thread t from ≡ 1 = ap (λ (b : Bool). cond b 1 0) p.0 in
          let rest = sum_before t (from + 1) n (let same = p.1 in omega arith) in
          omega arith
      | inr p ↦
          let here : at_thread t from ≡ 0 = ap (λ (b : Bool). cond b 1 0) p.0 in
          let rest = sum_one t (from + 1) n (let apart = p.1 in omega arith) (omega arith) in
          omega arith
    ]

-- the counts of all threads add up to the entries, where each entry is of one of them
pub sum_counts : (n : ℕ) (new : List Entry) → All (λ (e : Entry). e.thread < n) new
    → sum (map (λ i. count_of_thread i new) (range_with_len 0 n)) ≡ length new
sum_counts n [] all = sum_nothing 0 n
sum_counts n (e ∷ new) all =
    let few : e.thread < n = all 0 e (omega arith) in
    let rest = sum_counts n new (λ k d within. all (suc k) d (omega (arith, within))) in
    let one = sum_one e.thread 0 n (omega arith) (omega (arith, few)) in
    let both = sum_both (λ i. count_of_thread i (e ∷ new)) (at_thread e.thread) (λ i. count_of_thread i new) (λ i. sum_by-cons (λ (x : Entry). cond (nat_eq x.thread i) 1 0) e new) 0 n in
    omega arith

-- what all workers keep is what is held
pub gathered_nothing : (kept : ℕ → List NamedCommand) → ((i : ℕ) → kept i ≡ []) → (n : ℕ)
    → gathered kept n ≡ []
gathered_nothing kept none zero = refl
gathered_nothing kept none (suc n) = rw (gathered_nothing kept none n, none n) refl

gathered_before : (held : Held) (n : ℕ) → n ≤ held.worker
    → gathered (kept_by (Some held)) n ≡ []
gathered_before held zero before = refl
gathered_before held (suc n) before =
    let apart : held.worker ≢ n = λ same. absurd (omega (arith, before, same)) in
    rw (gathered_before held n (omega (arith, before)), ne_eqb held.worker n apart) refl

gathered_one : (held : Held) (n : ℕ) → held.worker < n
    → gathered (kept_by (Some held)) n ≡ held.taken ∷ []
gathered_one held zero within = absurd (omega (arith, within))
gathered_one held (suc n) within =
    elim (eqb_tells held.worker n) [
      | inl p ↦ rw (gathered_before held n (let same = p.1 in omega arith), p.0) refl
      | inr p ↦ rw (gathered_one held n (let apart = p.1 in omega arith), p.0) refl
    ]

pub gathered_held : (held : Option Held) (n : ℕ) → IfSome held (λ h. h.worker < n)
    → gathered (kept_by held) n ≡ kept_of held
gathered_held None n within = gathered_nothing (λ i. []) (λ i. refl) n
gathered_held (Some held) n within = gathered_one held n within

-- no entries have no count
pub zeros : (n from : ℕ) → replicate n 0 ≡ map (λ i. count_of_thread i []) (range_with_len from n)
zeros zero from = refl
zeros (suc n) from = ap (λ (xs : List ℕ). 0 ∷ xs) (zeros n (from + 1))

pub get_replicate : {A : Type 0} (x : A) (n i : ℕ) → i < n → slice_get (replicate n x) i ≡ Some x
get_replicate x zero i few = absurd (omega (arith, few))
get_replicate x (suc n) zero few = refl
get_replicate x (suc n) (suc i) few = get_replicate x n i (omega (arith, few))

-- a thread that no entry is of has no count
none_of : (m t : ℕ) (new : List Entry) → m ≤ t → All (λ (e : Entry). e.thread < m) new
    → count_of_thread t new ≡ 0
none_of m t [] past all = refl
none_of m t (e ∷ new) past all =
    let few : e.thread < m = all 0 e (omega arith) in
    let apart : e.thread ≢ t = λ same. absurd (omega (arith, few, past, same)) in
    let first = sum_by-cons (λ (x : Entry). cond (nat_eq x.thread t) 1 0) e new in
    let here : at_thread e.thread t ≡ 0 = ap (λ (b : Bool). cond b 1 0) (ne_eqb e.thread t apart) in
    let rest = none_of m t new past (λ k d within. all (suc k) d (omega (arith, within))) in
    omega arith

get_counts : (f : ℕ → ℕ) (from n i : ℕ) → i < n
    → slice_get (map f (range_with_len from n)) i ≡ Some (f (from + i))
get_counts f from zero i few = absurd (omega (arith, few))
get_counts f from (suc n) zero few = ap (λ (k : ℕ). Some (f k)) (let same : from ≡ from + 0 = omega arith in same)
get_counts f from (suc n) (suc i) few =
    get_counts f (from + 1) n i (omega (arith, few))
    ∙ ap (λ (k : ℕ). Some (f k)) (let same : from + 1 + i ≡ from + suc i = omega arith in same)

-- the counts of threads that no entry is of
pub count_none : (n m : ℕ) (new : List Entry) → All (λ (e : Entry). e.thread < m) new
    → (i : ℕ) → m ≤ i → i < n
    → slice_get (map (λ t. count_of_thread t new) (range_with_len 0 n)) i ≡ Some 0
count_none n m new all i past few =
    get_counts (λ t. count_of_thread t new) 0 n i few
    ∙ ap Some (none_of m (0 + i) new (omega (arith, past)) all)
