-- The loops that are open before a position are those that were open before the innermost of them,
-- under it. So the innermost one says all.
use Rattle.std.proofs.Common.{◌≡◌, ℕ, zero, suc, ◌<◌, ◌≤◌, ◌⊎◌, inl, inr, true, false, Bool, List, [], ◌∷◌, length, Option, None, Some, nat_eq, refl, arith, subst, ◌∙◌, ap}
use Rattle.std.specs.Prelude.{slice_get, drop, filter, cond, ◌||◌, ⊤}
use Rattle.std.specs.List.{list_any}
use Rattle.std.proofs.lemmas.Bool.{cases_eq, ne_eqb}
use Rattle.model.specs.declared.instr.Instr.{Instr}
use Rattle.model.specs.Loops.{open_at, open_by, open_after, is_closed, loops_round}
use Rattle.model.specs.Set.{Flow, Onward, Branches, Jumps, Opens, Closes, Leaves, flow_of}
use Rattle.verifier.specs.Pass.{opens, is_start}
use Rattle.verifier.specs.Survey.{first_of}

-- each loop of a list stands below a bound, and those under it are the ones that were open before
-- it
abbrev pub AreChained : List Instr → ℕ → List ℕ → Type 0
AreChained code bound [] = ⊤
AreChained code bound (q ∷ loops) = (q < bound) × (loops ≡ open_at code q) × AreChained code q loops

chained_more : (code : List Instr) (bound : ℕ) (loops : List ℕ) → AreChained code bound loops
    → AreChained code (suc bound) loops
chained_more code bound [] h = h
chained_more code bound (q ∷ loops) h = (let low : q < bound = h.0 in omega arith, h.1, h.2)

chained_less : (code : List Instr) (bound p : ℕ) (loops : List ℕ) → p < bound
    → AreChained code p loops → AreChained code bound loops
chained_less code bound p [] low h = h
chained_less code bound p (q ∷ loops) low h = (let lower : q < p = h.0 in omega arith, h.1, h.2)

chained_dropped : (code : List Instr) (bound : ℕ) (loops : List ℕ) → AreChained code bound loops
    → AreChained code (suc bound) (drop 1 loops)
chained_dropped code bound [] h = h
chained_dropped code bound (q ∷ loops) h =
    chained_less code (suc bound) q loops (let low : q < bound = h.0 in omega arith) h.2

chained_by : (code : List Instr) (f : Flow) (p : ℕ) → AreChained code p (open_at code p)
    → AreChained code (suc p) (open_by f p (open_at code p))
chained_by code Onward p h = chained_more code p (open_at code p) h
chained_by code (Branches label) p h = chained_more code p (open_at code p) h
chained_by code (Jumps label) p h = chained_more code p (open_at code p) h
chained_by code (Opens turns) p h = (omega arith, refl, h)
chained_by code Closes p h = chained_dropped code p (open_at code p) h
chained_by code Leaves p h = chained_more code p (open_at code p) h

chained_after : (code : List Instr) (i : Option Instr) (p : ℕ) → AreChained code p (open_at code p)
    → AreChained code (suc p) (open_after i p (open_at code p))
chained_after code None p h = chained_more code p (open_at code p) h
chained_after code (Some i) p h = chained_by code (flow_of i) p h

pub chained : (code : List Instr) (p : ℕ) → AreChained code p (open_at code p)
chained code zero = tt
chained code (suc p) = chained_after code (slice_get code p) p (chained code p)

-- the innermost stands below its position, and above those that are open before it
chained_first : (code : List Instr) (bound q : ℕ) (loops : List ℕ) → AreChained code bound loops
    → first_of loops ≡ Some q
    → (q < bound) × (loops ≡ q ∷ open_at code q)
chained_first code bound q [] h first = cc
chained_first code bound q (r ∷ loops) h first =
    let same : r ≡ q = cc in (
      subst (λ (x : ℕ). x < bound) same h.0,
      ap (λ (rest : List ℕ). r ∷ rest) h.1
          ∙ ap (λ (x : ℕ). x ∷ open_at code x) same,
    )

pub first_open : (code : List Instr) (p q : ℕ) → first_of (open_at code p) ≡ Some q
    → (q < p) × (open_at code p ≡ q ∷ open_at code q)
first_open code p q first = chained_first code p q (open_at code p) (chained code p) first

pub empty_of_first : (loops : List ℕ) → first_of loops ≡ None → loops ≡ []
empty_of_first [] h = refl
empty_of_first (q ∷ loops) h = cc

pub none_open : (code : List Instr) (p : ℕ) → first_of (open_at code p) ≡ None → open_at code p ≡ []
none_open code p first = empty_of_first (open_at code p) first

-- a loop that is open stands below the position
second_of_or : (first second : Bool) → first ≡ false → (first || second) ≡ true → second ≡ true
second_of_or true second fails either = cc
second_of_or false second fails either = either

pub false_of : (b : Bool) → (b ≡ true → ⊥) → b ≡ false
false_of true never = absurd (never refl)
false_of false never = refl

below_split : (bound q r : ℕ) (loops : List ℕ) → r < bound
    → (list_any (nat_eq q) loops ≡ true → q < r)
    → list_any (nat_eq q) (r ∷ loops) ≡ true → (q ≡ r) ⊎ (q ≡ r → ⊥) → q < bound
below_split bound q r loops low under there (inl same) = omega arith
below_split bound q r loops low under there (inr differs) =
    let lower : q < r =
    under (second_of_or (nat_eq q r) (list_any (nat_eq q) loops) (ne_eqb q r differs) there) in
    omega arith

chained_below : (code : List Instr) (bound q : ℕ) (loops : List ℕ) → AreChained code bound loops
    → list_any (nat_eq q) loops ≡ true → q < bound
chained_below code bound q [] h open_there = cc
chained_below code bound q (r ∷ loops) h open_there =
    below_split bound q r loops h.0 (chained_below code r q loops h.2) open_there (cases_eq q r)

-- a loop isn't open before itself
pub unopened : (code : List Instr) (q : ℕ) → list_any (nat_eq q) (open_at code q) ≡ false
unopened code q =
    false_of (list_any (nat_eq q) (open_at code q)) (λ yes. let low : q < q =
    chained_below code q q (open_at code q) (chained code q) yes in absurd (omega arith))

-- as many loops as positions at most
kept_few : (kept : Bool) (bound q : ℕ) (loops : List ℕ) → q < bound → length loops ≤ q
    → length (cond {A = List ℕ} kept (q ∷ loops) loops) ≤ bound
kept_few true bound q loops low few = omega arith
kept_few false bound q loops low few = omega arith

chained_few : (code : List Instr) (bound : ℕ) (loops : List ℕ) → AreChained code bound loops
    → length (filter (is_closed code) loops) ≤ bound
chained_few code bound [] h = omega arith
chained_few code bound (q ∷ loops) h =
    kept_few (is_closed code q) bound q (filter (is_closed code) loops) h.0
    (chained_few code q loops h.2)

open_few : (code : List Instr) (bound : ℕ) (loops : List ℕ) → AreChained code bound loops
    → length loops ≤ bound
open_few code bound [] h = omega arith
open_few code bound (q ∷ loops) h =
    let low : q < bound = h.0 in
    let few : length loops ≤ q = open_few code q loops h.2 in
    omega arith

pub few_open : (code : List Instr) (p : ℕ) → length (open_at code p) ≤ p
few_open code p = open_few code p (open_at code p) (chained code p)

pub few_round : (code : List Instr) (p : ℕ) → length (loops_round code p) ≤ p
few_round code p = chained_few code p (open_at code p) (chained code p)

-- the loops whose bodies hold a position, by the innermost that is open
pub round_none : (code : List Instr) (p : ℕ) → first_of (open_at code p) ≡ None
    → loops_round code p ≡ []
round_none code p first = ap (filter (is_closed code)) (none_open code p first)

pub round_closed : (code : List Instr) (p q : ℕ) → first_of (open_at code p) ≡ Some q
    → is_closed code q ≡ true → loops_round code p ≡ q ∷ loops_round code q
round_closed code p q first closed = ap (filter (is_closed code)) (first_open code p q first).1
    ∙ rw closed refl

pub round_unclosed : (code : List Instr) (p q : ℕ) → first_of (open_at code p) ≡ Some q
    → is_closed code q ≡ false → loops_round code p ≡ loops_round code q
round_unclosed code p q first unclosed = ap (filter (is_closed code)) (first_open code p q first).1
    ∙ rw unclosed refl

-- the innermost of them says which they are
round_split : (code : List Instr) (kept : Bool) (bound q r : ℕ) (loops : List ℕ) → r < bound
    → loops ≡ loops_round code r
    → (first_of loops ≡ Some q → (q < r) × (loops ≡ q ∷ loops_round code q))
    → first_of (cond {A = List ℕ} kept (r ∷ loops) loops) ≡ Some q
    → (q < bound) × (cond {A = List ℕ} kept (r ∷ loops) loops ≡ q ∷ loops_round code q)
round_split code true bound q r loops low under rest first =
    let same : r ≡ q = cc in (
      subst (λ (x : ℕ). x < bound) same low,
      ap (λ (tail : List ℕ). r ∷ tail) under
          ∙ ap (λ (x : ℕ). x ∷ loops_round code x) same,
    )
round_split code false bound q r loops low under rest first =
    let found : (q < r) × (loops ≡ q ∷ loops_round code q) = rest first in
    let lower : q < r = found.0 in
    (omega arith, found.1)

chained_round : (code : List Instr) (bound q : ℕ) (loops : List ℕ) → AreChained code bound loops
    → first_of (filter (is_closed code) loops) ≡ Some q
    → (q < bound) × (filter (is_closed code) loops ≡ q ∷ loops_round code q)
chained_round code bound q [] h first = cc
chained_round code bound q (r ∷ loops) h first =
    round_split code (is_closed code r) bound q r (filter (is_closed code) loops) h.0
    (ap (filter (is_closed code)) h.1)
    (chained_round code r q loops h.2) first

pub first_round : (code : List Instr) (p q : ℕ) → first_of (loops_round code p) ≡ Some q
    → (q < p) × (loops_round code p ≡ q ∷ loops_round code q)
first_round code p q first = chained_round code p q (open_at code p) (chained code p) first

-- a loop that is open before a position starts where it is named
abbrev AreStarts : List Instr → List ℕ → Type 0
AreStarts code [] = ⊤
AreStarts code (q ∷ loops) = (is_start (slice_get code q) ≡ true) × AreStarts code loops

starts_dropped : (code : List Instr) (loops : List ℕ) → AreStarts code loops
    → AreStarts code (drop 1 loops)
starts_dropped code [] h = h
starts_dropped code (q ∷ loops) h = h.1

starts_by : (code : List Instr) (i : Instr) (f : Flow) (p : ℕ) → slice_get code p ≡ Some i
    → flow_of i ≡ f → AreStarts code (open_at code p)
    → AreStarts code (open_by f p (open_at code p))
starts_by code i Onward p here flow h = h
starts_by code i (Branches label) p here flow h = h
starts_by code i (Jumps label) p here flow h = h
starts_by code i (Opens turns) p here flow h = (ap is_start here ∙ ap opens flow, h)
starts_by code i Closes p here flow h = starts_dropped code (open_at code p) h
starts_by code i Leaves p here flow h = h

starts_after : (code : List Instr) (i : Option Instr) (p : ℕ) → slice_get code p ≡ i
    → AreStarts code (open_at code p)
    → AreStarts code (open_after i p (open_at code p))
starts_after code None p here h = h
starts_after code (Some i) p here h = starts_by code i (flow_of i) p here refl h

starts : (code : List Instr) (p : ℕ) → AreStarts code (open_at code p)
starts code zero = tt
starts code (suc p) = starts_after code (slice_get code p) p refl (starts code p)

start_first : (code : List Instr) (q : ℕ) (loops : List ℕ) → AreStarts code loops
    → first_of loops ≡ Some q → is_start (slice_get code q) ≡ true
start_first code q [] h first = cc
start_first code q (r ∷ loops) h first =
    let same : r ≡ q = cc in subst (λ (x : ℕ). is_start (slice_get code x) ≡ true) same h.0

pub first_starts : (code : List Instr) (p q : ℕ) → first_of (open_at code p) ≡ Some q
    → is_start (slice_get code q) ≡ true
first_starts code p q first = start_first code q (open_at code p) (starts code p) first
