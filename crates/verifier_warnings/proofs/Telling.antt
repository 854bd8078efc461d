-- The line of a driver tells the order of the locks that it takes two at once.
use Rattle.laws_runs.proofs.Common.{ap, arith, get_or, inl, inr, refl, subst, sym, zero, suc, append_assoc, All, Bool, List, Some, [], true, false, length, slice_get, ℕ, ◌+◌, ◌<◌, ◌∷◌, ◌≡◌, ◌≢◌, ◌∙◌, ◌++◌, Set, Guard, CancelLock}
use Rattle.std.specs.Prelude.{Contains, codes, ◌==◌}
use Rattle.verifier_orders.specs.Edges.{HasNoOrder}
use Rattle.verifier_orders.specs.Orders.{ArePaired}
use Rattle.verifier_warnings.specs.Lines.{HoldsNoTwo, IsOrderLine, comma, lock_name, names_to, order_words, takes_lock}
use Rattle.verifier_warnings.specs.Orders.{EndsWith}
use Rattle.verifier_warnings.specs.Warnings.{AreLines}

-- where none are told, none are held two at once
none_held : (set : Set) (driver : ℕ) → ArePaired set driver [] → HoldsNoTwo set driver
none_held set driver paired held taken under =
    let has : Contains {X = Guard} [] held = paired.all held (taken, inl under) in
    (let low : has.0 < 0 = has.1 in absurd (omega arith))

pub order_line_by : (set : Set) (driver : ℕ) (locks : List Guard) (line : List ℕ)
    → ArePaired set driver locks
    → (locks ≡ [] → takes_lock (slice_get set.drivers driver) ≡ true)
    → EndsWith line (order_words locks) → IsOrderLine set driver line
order_line_by set driver [] line paired takes ends =
    inr (inl (none_held set driver paired, takes refl, ends))
order_line_by set driver (lock ∷ locks) line paired takes ends =
    inl (lock ∷ locks, paired, λ none. cc, ends)

pub no_line : (set : Set) (driver : ℕ) (line : List ℕ)
    → takes_lock (slice_get set.drivers driver) ≡ false → line ≡ [] → IsOrderLine set driver line
no_line set driver line takes none = inr (inr (inl takes, none))

pub no_line_of_cycle : (set : Set) (driver : ℕ) (line : List ℕ) → HasNoOrder set driver
    → line ≡ [] → IsOrderLine set driver line
no_line_of_cycle set driver line cycle none = inr (inr (inr cycle, none))

-- one name more
pub name_added : (locks : List Guard) (count : ℕ) (lock : Guard) (start old middle new : List ℕ)
    → old ≡ start ++ names_to locks count → middle ≡ old ++ comma count
    → new ≡ middle ++ lock_name lock → lock ≡ get_or locks count CancelLock
    → new ≡ start ++ names_to locks (count + 1)
name_added locks count lock start old middle new is second third same =
    let next : suc count ≡ count + 1 = omega arith in
    let more : new ≡ start ++ names_to locks (suc count) =
    third
    ∙ ap (λ (xs : List ℕ). xs ++ lock_name lock) (second ∙ ap (λ (xs : List ℕ). xs ++ comma count) is)
    ∙ ap (λ (xs : List ℕ). xs ++ lock_name lock) (append_assoc start (names_to locks count) (comma count))
    ∙ append_assoc start (names_to locks count ++ comma count) (lock_name lock)
    ∙ ap (λ (g : Guard). start ++ ((names_to locks count ++ comma count) ++ lock_name g)) same in
    subst (λ (n : ℕ). new ≡ start ++ names_to locks n) next more

-- one line more
pub line_behind : (P : ℕ → List ℕ → Type 0) (count : ℕ) (old line new : List ℕ)
    → AreLines P count old → P count line → new ≡ old ++ line → AreLines P (count + 1) new
line_behind P count old line new are is all =
    let next : suc count ≡ count + 1 = omega arith in
    let more : AreLines P (suc count) new = (old, line, are, is, all) in
    subst (λ (n : ℕ). AreLines P n new) next more

-- the words where some are told
pub order_added : (locks : List Guard) (start old middle new : List ℕ)
    → (length locks == 0) ≡ false → old ≡ start ++ codes " takes its locks in this order: "
    → middle ≡ old ++ names_to locks (length locks) → new ≡ middle ++ codes ".\n"
    → new ≡ start ++ order_words locks
order_added [] start old middle new some is second third = cc
order_added (lock ∷ locks) start old middle new some is second third =
    let all : List Guard = lock ∷ locks in
    let names : List ℕ = names_to all (length all) in
    third
    ∙ ap (λ (xs : List ℕ). xs ++ codes ".\n") (second ∙ ap (λ (xs : List ℕ). xs ++ names) is)
    ∙ append_assoc (start ++ codes " takes its locks in this order: ") names (codes ".\n")
    ∙ append_assoc start (codes " takes its locks in this order: ") (names ++ codes ".\n")
