-- No more runs are kept than there are lists of so many events.
use Rattle.laws_runs.proofs.Prelude.{arith, get_or, slice_get-get_or, zero, List, Some, [], length, slice_get, suc, ℕ, ◌*◌, ◌+◌, ◌<◌, ◌≡◌, ◌≤◌, Event}
use Rattle.std.proofs.Math.Nat.{mul-le-mul_right}
use Rattle.hunt_exact.specs.Exact.{lists_up_to}
use Rattle.hunt_exact.specs.Searched.{IsGrown, IsSearched}
use Rattle.hunt_exact.specs.Within.{Scope}

one_at_least : (moves n : ℕ) → 0 < lists_up_to moves n
one_at_least moves zero = omega arith
one_at_least moves (suc n) = omega arith

-- before a run of at most so many events
few_before : (scope : Scope) (paths : List (List Event)) (front : ℕ)
    → IsSearched scope paths front → (n k : ℕ) (path : List Event)
    → slice_get paths k ≡ Some path → length path ≤ n
    → k < lists_up_to (length scope.moves) n
few_before scope paths front searched n zero path kept short =
    one_at_least (length scope.moves) n
few_before scope paths front searched zero (suc k) path kept short =
    let on : IsGrown scope paths (suc k) path = searched.grown (suc k) path (omega arith) kept in
    absurd (omega (arith, on.longer, short))
few_before scope paths front searched (suc n) (suc k) path kept short =
    let on : IsGrown scope paths (suc k) path = searched.grown (suc k) path (omega arith) kept in
    let low : on.number < lists_up_to (length scope.moves) n =
    few_before scope paths front searched n on.number on.before on.kept
    (omega (arith, on.longer, short)) in
    let next : suc on.number ≤ lists_up_to (length scope.moves) n = omega (arith, low) in
    let more : suc on.number * length scope.moves
    ≤ lists_up_to (length scope.moves) n * length scope.moves =
    mul-le-mul_right (length scope.moves) next in
    omega (arith, on.few, more)

all_below : (n m : ℕ) → ((k : ℕ) → k < m → k < n) → m ≤ n
all_below n zero each = omega arith
all_below n (suc m) each = let low : m < n = each m (omega arith) in omega (arith, low)

pub few_kept : (scope : Scope) (paths : List (List Event)) (front : ℕ) (path : List Event)
    → IsSearched scope paths front → slice_get paths front ≡ Some path
    → length paths ≤ lists_up_to (length scope.moves) (suc (length path))
few_kept scope paths front path searched at =
    all_below (lists_up_to (length scope.moves) (suc (length path))) (length paths)
    (λ k inside.
    let kept : slice_get paths k ≡ Some (get_or paths k []) =
    slice_get-get_or paths k [] inside in
    few_before scope paths front searched (suc (length path)) k (get_or paths k []) kept
    (searched.near front k path (get_or paths k []) (omega arith) at kept))
