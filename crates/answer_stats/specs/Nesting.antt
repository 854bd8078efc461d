-- How deep the object of `stats` nests.
use Rattle.std.proofs.Common.{◌+◌, ◌≤◌, ℕ, List, [], ◌∷◌, arith}
use Rattle.answer_stats.specs.declared.sizes.Sizes.{Sizes}
use Rattle.answer_stats.specs.Json.{code_length, routine_json, routines_json, stats_json}
use Rattle.answer_stats.specs.Order.{edge_json, edges_json, edges_of, lock_json, locks_json, order_json, orders_json, paired_json}
use Rattle.json.specs.Json.{max_depth}
use Rattle.json.specs.Tree.{depth, items_depth}
use Rattle.model.specs.declared.set.Guard.{Guard}
use Rattle.model.specs.declared.set.Guard.TheVariants.{DeviceLock, CancelLock}
use Rattle.model.specs.Set.{Set}
use Rattle.report_json.specs.declared.verdict.CertifiedRoutine.{CertifiedRoutine}
use Rattle.report_json.specs.Nesting.{name_nests, number_nests}
use Rattle.verifier_orders.specs.declared.names.Edge.{Edge}
use Rattle.verifier_orders.specs.declared.order.LockOrder.{LockOrder}
use Rattle.verifier_orders.specs.declared.order.LockOrder.TheVariants.{Ordered, Cycle}

lock_nests : (lock : Guard) → depth (lock_json lock) ≤ 1
lock_nests (DeviceLock spin) = omega arith
lock_nests CancelLock = omega arith

locks_nest : (locks : List Guard) → items_depth (locks_json locks) ≤ 1
locks_nest [] = omega arith
locks_nest (lock ∷ locks) = omega (arith, lock_nests lock, locks_nest locks)

edge_nests : (edge : Edge) → depth (edge_json edge) ≤ 2
edge_nests edge = omega (arith, lock_nests edge.taken, lock_nests edge.held)

edges_nest : (edges : List Edge) → items_depth (edges_json edges) ≤ 2
edges_nest [] = omega arith
edges_nest (edge ∷ edges) = omega (arith, edge_nests edge, edges_nest edges)

paired_nests : (order : LockOrder) → depth (paired_json order) ≤ 2
paired_nests (Ordered locks) = omega (arith, locks_nest locks.paired.items)
paired_nests (Cycle edges) = omega arith

order_nests : (driver : ℕ) (order : LockOrder) → depth (order_json driver order) ≤ 4
order_nests driver order = omega (arith, paired_nests order, edges_nest (edges_of order))

orders_nest : (driver : ℕ) (orders : List LockOrder) → items_depth (orders_json driver orders) ≤ 4
orders_nest driver [] = omega arith
orders_nest driver (order ∷ orders) =
    omega (arith, order_nests driver order, orders_nest (driver + 1) orders)

routine_nests : (set : Set) (routine : CertifiedRoutine) → depth (routine_json set routine) ≤ 1
routine_nests set routine =
    omega (
      arith,
      name_nests routine.name,
      number_nests (code_length set routine.driver routine.routine),
    )

routines_nest : (set : Set) (routines : List CertifiedRoutine)
    → items_depth (routines_json set routines) ≤ 1
routines_nest set [] = omega arith
routines_nest set (routine ∷ routines) =
    omega (arith, routine_nests set routine, routines_nest set routines)

pub stats_nests : (file : List ℕ) (set : Set) (routines : List CertifiedRoutine)
    (orders : List LockOrder) (sizes : Sizes)
    → depth (stats_json file set routines orders sizes) ≤ max_depth
stats_nests file set routines orders sizes =
    omega (arith, routines_nest set routines, orders_nest 0 orders)
