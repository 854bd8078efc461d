-- The order of the locks of each driver, or a shortest cycle (Driver Verifier, deadlock detection).
use Rattle.std.specs.Prelude.{ℕ, ◌≡◌, ◌≢◌, ◌≤◌, ◌<◌, ◌⊎◌, ◌||◌, Bool, true, false, List, [], ◌∷◌, All, AllPairs, Contains, Some, nat_eq, slice_get, length, ⊤}
use Rattle.std.specs.List.{list_any}
use Rattle.model.specs.declared.set.Guard.{Guard}
use Rattle.model.specs.declared.set.Guard.TheVariants.{DeviceLock, CancelLock}
use Rattle.model.specs.Set.{Set}
use Rattle.laws_runs.specs.Order.{IsOrder, TakesUnder, lock_names}
use Rattle.verifier_orders.specs.declared.names.Edge.{Edge}
use Rattle.verifier_orders.specs.declared.order.LockOrder.{LockOrder}
use Rattle.verifier_orders.specs.declared.order.Locks.{Locks}
use Rattle.verifier_orders.specs.declared.order.LockOrder.TheVariants.{Ordered, Cycle}
use Rattle.verifier_orders.specs.Edges.{HasNoOrder, number_of}

-- an edge tells where a routine of a driver takes a lock under another
pub record IsEdge (set : Set) (driver : ℕ) (e : Edge) : Type 0 where
  pub under : TakesUnder set driver e.held e.taken
  pub routine : under.number ≡ e.routine
  pub position : under.position ≡ e.at

-- one of some edges is between these locks
abbrev pub HasPair : List Edge → Guard → Guard → Type 0
HasPair pairs held taken =
    (k : ℕ) × (e : Edge) × (slice_get pairs k ≡ Some e) × (e.held ≡ held) × (e.taken ≡ taken)

-- which lock the routines of a driver take under which: a place for each two locks of which one is
-- taken while the other is held, and for no others
pub record ArePairs (set : Set) (driver : ℕ) (pairs : List Edge) : Type 0 where
  pub each : All (IsEdge set driver) pairs
  pub all : (held taken : Guard) → TakesUnder set driver held taken → HasPair pairs held taken
  pub once : (j k : ℕ) (e f : Edge) → slice_get pairs j ≡ Some e → slice_get pairs k ≡ Some f
      → e.held ≡ f.held → e.taken ≡ f.taken → j ≡ k

-- edges from a lock to another: each takes the lock under which the next one is taken
abbrev pub LeadOn : Guard → List Edge → Guard → Type 0
LeadOn lock [] to = lock ≡ to
LeadOn lock (e ∷ edges) to = (e.held ≡ lock) × LeadOn e.taken edges to

-- the routines of a driver take locks in a cycle
pub record IsLockCycle (set : Set) (driver : ℕ) (cycle : List Edge) : Type 0 where
  pub lock : Guard
  pub on : LeadOn lock cycle lock
  pub some : cycle ≢ []
  pub each : All (IsEdge set driver) cycle

-- an edge comes before another: in an earlier routine, or at an earlier position of the same one, or
-- there under a lock of a lower number, where the system cancel spin lock has the highest
abbrev pub IsBefore : Edge → Edge → Type 0
IsBefore e f =
    (e.routine < f.routine)
    ⊎ ((e.routine ≡ f.routine)
    × ((e.at < f.at) ⊎ ((e.at ≡ f.at) × (number_of e.held < number_of f.held))))

-- edges come no later than others: the first in which they differ comes before
abbrev pub AreNoLater : List Edge → List Edge → Type 0
AreNoLater [] others = ⊤
AreNoLater (e ∷ edges) [] = ⊥
AreNoLater (e ∷ edges) (f ∷ others) = IsBefore e f ⊎ ((e ≡ f) × AreNoLater edges others)

-- in none that is shorter; of those that are as short, this is the first
pub record IsShortestCycle (set : Set) (driver : ℕ) (cycle : List Edge) : Type 0 where
  pub is : IsLockCycle set driver cycle
  pub shortest : (other : List Edge) → IsLockCycle set driver other → length cycle ≤ length other
  pub first : (other : List Edge) → IsLockCycle set driver other
      → length other ≡ length cycle → AreNoLater cycle other

-- a lock of a driver is in a pair: its routines take another under it, or it under another
abbrev pub IsInPair : Set → ℕ → Guard → Type 0
IsInPair set driver lock =
    (other : Guard) × (TakesUnder set driver lock other ⊎ TakesUnder set driver other lock)

-- the nine locks of a driver in an order in which its routines take them
pub record AreOrdered (set : Set) (driver : ℕ) (locks : List Guard) : Type 0 where
  pub place : Guard → ℕ
  pub order : IsOrder set driver place
  pub nine : length locks ≡ lock_names
  pub placed : (k : ℕ) (lock : Guard) → slice_get locks k ≡ Some lock → place lock ≡ k
  pub has : (lock : Guard) → IsInPair set driver lock → slice_get locks (place lock) ≡ Some lock

-- those of its locks that are in a pair, and no others, in such an order
pub record ArePaired (set : Set) (driver : ℕ) (locks : List Guard) : Type 0 where
  pub place : Guard → ℕ
  pub order : IsOrder set driver place
  pub rises : AllPairs (λ (one later : Guard). place one < place later) locks
  pub each : All (IsInPair set driver) locks
  pub all : (lock : Guard) → IsInPair set driver lock → Contains locks lock

-- a lock is one of the two of an edge
abbrev pub same_lock : Guard → Guard → Bool
same_lock (DeviceLock spin) (DeviceLock other) = nat_eq spin other
same_lock (DeviceLock spin) CancelLock = false
same_lock CancelLock (DeviceLock other) = false
same_lock CancelLock CancelLock = true

abbrev pub is_of : Guard → Edge → Bool
is_of lock e = same_lock e.held lock || same_lock e.taken lock

-- and of one of some
abbrev pub is_in : List Edge → Guard → Bool
is_in pairs lock = list_any (is_of lock) pairs

-- a driver's nine locks in an order, and those of them that are in a pair
abbrev pub AreOrderedSo : Set → ℕ → Locks → Type 0
AreOrderedSo set driver locks =
    AreOrdered set driver locks.all.items × ArePaired set driver locks.paired.items

-- a driver's locks in an order, or a shortest cycle where there is none
abbrev pub IsLockOrder : Set → ℕ → LockOrder → Type 0
IsLockOrder set driver (Ordered locks) = AreOrderedSo set driver locks
IsLockOrder set driver (Cycle edges) =
    IsShortestCycle set driver edges.items × HasNoOrder set driver

-- those of the drivers before one
pub record AreLockOrders (set : Set) (count : ℕ) (orders : List LockOrder) : Type 0 where
  pub long : length orders ≡ count
  pub each : (driver : ℕ) (order : LockOrder) → slice_get orders driver ≡ Some order
      → IsLockOrder set driver order

-- each is an order
abbrev pub IsOrdered : LockOrder → Type 0
IsOrdered (Ordered locks) = ⊤
IsOrdered (Cycle edges) = ⊥

abbrev pub AreAllOrdered : List LockOrder → Type 0
AreAllOrdered orders =
    (driver : ℕ) (order : LockOrder) → slice_get orders driver ≡ Some order → IsOrdered order
