-- The order of the locks of a driver of the set that bytes name.
use Rattle.std.specs.Prelude.{ℕ, ⊤, ◌≤◌, ◌<◌, List, Option, None, Some, length}
use Rattle.model.specs.Set.{Set}
use Rattle.model.specs.Typable.{IsTypable}
use Rattle.pafteis_world.specs.Judged.{Names}
use Rattle.verifier_orders.specs.declared.order.LockOrder.{LockOrder}
use Rattle.verifier_orders.specs.declared.order.LockOrder.TheVariants.{Ordered, Cycle}
use Rattle.verifier_orders.specs.Orders.{IsLockOrder}

-- a cycle has at most nine edges, one for each lock
abbrev pub IsShort : LockOrder → Type 0
IsShort (Ordered locks) = ⊤
IsShort (Cycle edges) = length edges.items ≤ 9

-- the order of a driver's locks, or a shortest cycle where they have none; nothing where the set has
-- no driver of this number
abbrev pub IsOrderOf : Set → ℕ → Option LockOrder → Type 0
IsOrderOf set driver None = length set.drivers ≤ driver
IsOrderOf set driver (Some order) =
    (driver < length set.drivers) × IsLockOrder set driver order × IsShort order

-- that of an accepted set which bytes name
pub record OrdersLocks (bytes : List ℕ) (driver : ℕ) (order : Option LockOrder) : Type 0 where
  pub set : Set
  pub names : Names bytes set
  pub typable : IsTypable set
  pub is : IsOrderOf set driver order
