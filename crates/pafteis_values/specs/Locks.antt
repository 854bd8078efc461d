-- What the header tells of the order of a driver's locks, or of a cycle of them.
use Rattle.std.specs.Prelude.{ℕ, List, [], ◌∷◌, Option, None, Some, length, replicate, slice_get}
use Rattle.model.specs.declared.set.Guard.{Guard}
use Rattle.pafteis_values.specs.declared.locks.LockEdgeValue.{LockEdgeValue}
use Rattle.pafteis_values.specs.declared.locks.LockOrderValue.{LockOrderValue}
use Rattle.verifier_orders.specs.declared.names.Edge.{Edge}
use Rattle.verifier_orders.specs.declared.order.LockOrder.{LockOrder}
use Rattle.verifier_orders.specs.declared.order.LockOrder.TheVariants.{Ordered, Cycle}
use Rattle.verifier_orders.specs.Edges.{number_of}

-- the number of a lock, if there is one
abbrev pub lock_value : Option Guard → ℕ
lock_value None = 0
lock_value (Some lock) = number_of lock

abbrev pub no_edge : LockEdgeValue
no_edge = record { position = 0; routine = 0; held = 0; taken = 0 }

-- an edge as a value, if there is one
abbrev pub edge_value : Option Edge → LockEdgeValue
edge_value None = no_edge
edge_value (Some e) =
    record {
      position = e.at;
      routine = e.routine;
      held = number_of e.held;
      taken = number_of e.taken;
    }

-- nine values, each by its place
abbrev pub nine : {A : Type 0} → (ℕ → A) → List A
nine at = at 0 ∷ at 1 ∷ at 2 ∷ at 3 ∷ at 4 ∷ at 5 ∷ at 6 ∷ at 7 ∷ at 8 ∷ []

-- locks in an order, as a value
abbrev pub ordered : List Guard → LockOrderValue
ordered locks =
    record {
      edges = 0;
      kind = 1;
      order = nine (λ place. lock_value (slice_get locks place));
      cycle = replicate 9 no_edge;
    }

-- the edges of a cycle, as a value
abbrev pub in_a_cycle : List Edge → LockOrderValue
in_a_cycle edges =
    record {
      edges = length edges;
      kind = 2;
      order = replicate 9 0;
      cycle = nine (λ place. edge_value (slice_get edges place));
    }

abbrev pub order_value : LockOrder → LockOrderValue
order_value (Ordered locks) = ordered locks.all.items
order_value (Cycle edges) = in_a_cycle edges.items
