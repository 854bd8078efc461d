-- The warnings of orders are those of their drivers.
use Rattle.laws_runs.proofs.Common.{ap, arith, inl, inr, subst, sym, slice_get-get_or, List, Some, length, slice_get, ℕ, ◌+◌, ◌<◌, ◌≡◌, ◌∙◌}
use Rattle.std.specs.Prelude.{get_or, suc, zero}
use Rattle.model.specs.Set.{Set}
use Rattle.verifier_orders.specs.declared.order.LockOrder.{LockOrder}
use Rattle.verifier_orders.specs.declared.order.LockOrder.TheVariants.{Ordered, Cycle}
use Rattle.verifier_orders.specs.Orders.{AreLockOrders, IsLockOrder}
use Rattle.verifier_warnings.specs.Warnings.{AddsWarning, AreLines, AreWarnings, IsWarningOn, Warns, WarnsAt}

-- texts of which more is so
lines_on : (P Q : ℕ → List ℕ → Type 0) (count : ℕ) (words : List ℕ)
    → ((k : ℕ) (line : List ℕ) → P k line → Q k line) → AreLines P count words
    → AreLines Q count words
lines_on P Q zero words on are = are
lines_on P Q (suc count) words on (before, line, are, is, all) =
    (before, line, lines_on P Q count before on are, on count line is, all)

-- one more
pub line_added : (orders : List LockOrder) (count : ℕ) (order : LockOrder) (old new : List ℕ)
    → count < length orders → order ≡ get_or orders count order
    → AreLines (WarnsAt orders) count old → AddsWarning order old new
    → AreLines (WarnsAt orders) (count + 1) new
line_added orders count order old new low is are (line, warns, all) =
    let there : slice_get orders count ≡ Some order =
    slice_get-get_or orders count order low ∙ ap (λ (o : LockOrder). Some o) (sym is) in
    let next : suc count ≡ count + 1 = omega arith in
    let more : AreLines (WarnsAt orders) (suc count) new =
    (old, line, are, (order, there, warns), all) in
    subst (λ (n : ℕ). AreLines (WarnsAt orders) n new) next more

warned_on : (set : Set) (driver : ℕ) (order : LockOrder) (line : List ℕ)
    → IsLockOrder set driver order → Warns order line → IsWarningOn set driver line
warned_on set driver (Ordered locks) line is (inl (ordered, none)) =
    inl ((is.0.place, is.0.order), none)
warned_on set driver (Ordered locks) line is (inr (cycle, ends)) = absurd cycle
warned_on set driver (Cycle edges) line is (inl (ordered, none)) = absurd ordered
warned_on set driver (Cycle edges) line is (inr (cycle, ends)) = inr (is.1, ends)

pub all_warned : (set : Set) (orders : List LockOrder) (words : List ℕ)
    → AreLockOrders set (length set.drivers) orders
    → AreLines (WarnsAt orders) (length orders) words → AreWarnings set words
all_warned set orders words h are =
    lines_on (WarnsAt orders) (IsWarningOn set) (length set.drivers) words
    (λ k line warns. warned_on set k warns.0 line (h.each k warns.0 warns.1) warns.2)
    (subst (λ (n : ℕ). AreLines (WarnsAt orders) n words) h.long are)
