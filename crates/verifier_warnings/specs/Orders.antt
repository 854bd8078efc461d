-- What is told of the orders in which the drivers of a set take their locks.
use Rattle.std.specs.Prelude.{ℕ, ⊤, ◌≡◌, ◌++◌, ◌⊎◌, Bool, true, false, List, Some, codes, slice_get}
use Rattle.laws_runs.specs.Order.{HasLockOrders}
use Rattle.model.specs.Set.{Set}
use Rattle.verifier_orders.specs.declared.order.LockOrder.{LockOrder}
use Rattle.verifier_orders.specs.declared.order.LockOrder.TheVariants.{Cycle}
use Rattle.verifier_orders.specs.Edges.{HasNoOrder}
use Rattle.verifier_orders.specs.Orders.{AreAllOrdered, IsOrdered}

-- the last words where each driver takes its locks in an order
abbrev pub no_ring : List ℕ
no_ring = codes "No threads ever wait for each other in a ring, and every routine ends.\n"

-- and where one takes its locks in a cycle
abbrev pub advice : List ℕ
advice = codes "Acquire these locks in one order everywhere.\n"

abbrev pub EndsWith : List ℕ → List ℕ → Type 0
EndsWith words last = (before : List ℕ) × (words ≡ before ++ last)

-- the locks of a driver have no order
abbrev pub HasCycle : Set → Type 0
HasCycle set = (driver : ℕ) × HasNoOrder set driver

-- words end so that no threads wait for each other in a ring, where each driver has an order; else
-- with the advice on a cycle
abbrev pub TellsOrders : Set → List ℕ → Type 0
TellsOrders set words =
    (HasLockOrders set × EndsWith words no_ring) ⊎ (HasCycle set × EndsWith words advice)

-- what is told last of a set
abbrev pub TellsEnd : Set → List ℕ → Type 0
TellsEnd set end = (HasLockOrders set × (end ≡ no_ring)) ⊎ (HasCycle set × EndsWith end advice)

-- an order is a cycle
abbrev pub IsCycle : LockOrder → Type 0
IsCycle (Cycle edges) = ⊤
IsCycle _ = ⊥

-- one of some orders is a cycle
abbrev pub IsCycleAmong : List LockOrder → Type 0
IsCycleAmong orders =
    (driver : ℕ) × (order : LockOrder) × (slice_get orders driver ≡ Some order) × IsCycle order

-- behind some words the cycles among some orders are told, if there are any
abbrev pub TellsCycles : List LockOrder → List ℕ → List ℕ → Bool → Type 0
TellsCycles orders old new true = IsCycleAmong orders × EndsWith new advice
TellsCycles orders old new false = AreAllOrdered orders × (new ≡ old)

-- behind some words the cycle of a driver is told, if it has one
abbrev pub TellsCycle : LockOrder → List ℕ → List ℕ → Bool → Type 0
TellsCycle order old new true = IsCycle order × EndsWith new advice
TellsCycle order old new false = IsOrdered order × (new ≡ old)

-- the last words on some orders
abbrev pub EndsRightly : List LockOrder → List ℕ → Type 0
EndsRightly orders words =
    (AreAllOrdered orders × (words ≡ no_ring))
    ⊎ (IsCycleAmong orders × EndsWith words advice)
