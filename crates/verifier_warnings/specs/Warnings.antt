-- The warnings of the drivers of a set that take their locks in a cycle.
use Rattle.std.specs.Prelude.{ℕ, ◌≡◌, ◌++◌, ◌⊎◌, List, [], Some, zero, suc, codes, length, slice_get}
use Rattle.laws_runs.specs.Order.{IsOrder}
use Rattle.model.specs.declared.set.Guard.{Guard}
use Rattle.model.specs.Set.{Set}
use Rattle.verifier_orders.specs.declared.order.LockOrder.{LockOrder}
use Rattle.verifier_orders.specs.Edges.{HasNoOrder}
use Rattle.verifier_orders.specs.Orders.{IsOrdered}
use Rattle.verifier_warnings.specs.Orders.{EndsWith, IsCycle}

-- the last words of a warning
abbrev pub for_ever : List ℕ
for_ever = codes "): workers may wait for each other for ever\n"

-- a text for each number below one, in order
abbrev pub AreLines : (ℕ → List ℕ → Type 0) → ℕ → List ℕ → Type 0
AreLines Such zero words = words ≡ []
AreLines Such (suc count) words =
    (before line : List ℕ) × AreLines Such count before × Such count line
    × (words ≡ before ++ line)

-- the locks of a driver have an order
abbrev pub HasOrder : Set → ℕ → Type 0
HasOrder set driver = (place : Guard → ℕ) × IsOrder set driver place

-- what is told of a driver: nothing where its locks have an order, and else a warning
abbrev pub IsWarningOn : Set → ℕ → List ℕ → Type 0
IsWarningOn set driver line =
    (HasOrder set driver × (line ≡ [])) ⊎ (HasNoOrder set driver × EndsWith line for_ever)

-- and of all drivers of a set
abbrev pub AreWarnings : Set → List ℕ → Type 0
AreWarnings set words = AreLines (IsWarningOn set) (length set.drivers) words

-- what is told of one of some orders
abbrev pub Warns : LockOrder → List ℕ → Type 0
Warns order line = (IsOrdered order × (line ≡ [])) ⊎ (IsCycle order × EndsWith line for_ever)

abbrev pub WarnsAt : List LockOrder → ℕ → List ℕ → Type 0
WarnsAt orders number line =
    (order : LockOrder) × (slice_get orders number ≡ Some order) × Warns order line

-- it stands behind some words
abbrev pub AddsWarning : LockOrder → List ℕ → List ℕ → Type 0
AddsWarning order old new = (line : List ℕ) × Warns order line × (new ≡ old ++ line)
