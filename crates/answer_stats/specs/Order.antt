-- The objects of lock orders.
use Rattle.std.specs.Prelude.{ℕ, ◌+◌, List, [], ◌∷◌, codes, decimal}
use Rattle.json.specs.Json.{Json, array, null, number, string, object, Items, no_items, item, no_members, member}
use Rattle.model.specs.declared.event.Lock.TheVariants.{SystemCancel}
use Rattle.model.specs.declared.event.Subject.TheVariants.{Lock}
use Rattle.model.specs.declared.set.Guard.{Guard}
use Rattle.model.specs.declared.set.Guard.TheVariants.{DeviceLock, CancelLock}
use Rattle.report_json.specs.Event.{subject_json}
use Rattle.verifier_orders.specs.declared.names.Edge.{Edge}
use Rattle.verifier_orders.specs.declared.order.LockOrder.{LockOrder}
use Rattle.verifier_orders.specs.declared.order.LockOrder.TheVariants.{Ordered, Cycle}

-- a lock of a driver: a spin lock of any of its devices by its number, or the system cancel spin lock
abbrev pub spin_lock_json : ℕ → Json
spin_lock_json lock =
    object
    (member (codes "kind") (string (codes "spin_lock"))
    (member (codes "lock") (number (decimal lock))
    no_members))

abbrev pub lock_json : Guard → Json
lock_json (DeviceLock spin) = spin_lock_json spin
lock_json CancelLock = subject_json (Lock SystemCancel)

abbrev pub locks_json : List Guard → Items
locks_json [] = no_items
locks_json (lock ∷ locks) = item (lock_json lock) (locks_json locks)

-- where a routine takes a lock, and which one it holds there
abbrev pub edge_json : Edge → Json
edge_json edge =
    object
    (member (codes "routine") (number (decimal edge.routine))
    (member (codes "position") (number (decimal edge.at))
    (member (codes "taken") (lock_json edge.taken)
    (member (codes "held") (lock_json edge.held)
    no_members))))

abbrev pub edges_json : List Edge → Items
edges_json [] = no_items
edges_json (edge ∷ edges) = item (edge_json edge) (edges_json edges)

-- the locks of which a driver takes one while it holds another, in order, if they have one
abbrev pub paired_json : LockOrder → Json
paired_json (Ordered locks) = array (locks_json locks.paired.items)
paired_json (Cycle edges) = null

-- a shortest cycle where they have none
abbrev pub edges_of : LockOrder → List Edge
edges_of (Ordered locks) = []
edges_of (Cycle edges) = edges.items

-- the order of the locks of the driver of a number, or such a cycle
abbrev pub order_json : ℕ → LockOrder → Json
order_json driver order =
    object
    (member (codes "driver") (number (decimal driver))
    (member (codes "order") (paired_json order)
    (member (codes "cycle") (array (edges_json (edges_of order)))
    no_members)))

-- those of drivers, the first of which has this number
abbrev pub orders_json : ℕ → List LockOrder → Items
orders_json driver [] = no_items
orders_json driver (order ∷ orders) =
    item (order_json driver order) (orders_json (driver + 1) orders)
