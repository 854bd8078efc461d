-- The orders of the drivers one after another.
use Rattle.laws_runs.proofs.Common.{ap, arith, inl, inr, refl, subst, sym, zero, ◌∙◌, cases_lt, slice_get_within, List, Some, [], length, slice_get, suc, ℕ, ◌++◌, ◌+◌, ◌<◌, ◌∷◌, ◌≡◌, ◌≤◌, ◌⊎◌, Set, Guard}
use Rattle.laws_runs.specs.Order.{HasLockOrders, IsOrder}
use Rattle.verifier_orders.specs.declared.order.LockOrder.{LockOrder}
use Rattle.verifier_orders.specs.declared.order.LockOrder.TheVariants.{Ordered, Cycle}
use Rattle.verifier_orders.specs.Orders.{AreAllOrdered, AreLockOrders, IsLockOrder, IsOrdered}
use Rattle.verifier_orders.proofs.Finding.{no_routine}

get_last : (orders : List LockOrder) (o order : LockOrder) (k : ℕ)
    → slice_get (orders ++ o ∷ []) k ≡ Some order
    → (slice_get orders k ≡ Some order) ⊎ ((k ≡ length orders) × (o ≡ order))
get_last [] o order zero there = inr (refl, (let same : Some o ≡ Some order = there in cc))
get_last [] o order (suc k) there = cc
get_last (f ∷ orders) o order zero there = inl there
get_last (f ∷ orders) o order (suc k) there =
    elim (get_last orders o order k there) [
      | inl before ↦ inl before
      | inr last ↦ inr (ap suc last.0, last.1)
    ]

length_more : (orders : List LockOrder) (o : LockOrder)
    → length (orders ++ o ∷ []) ≡ length orders + 1
length_more [] o = refl
length_more (f ∷ orders) o = omega (arith, length_more orders o)

pub orders_none : (set : Set) → AreLockOrders set 0 []
orders_none set = record { long = refl; each = λ k order there. cc }

pub orders_more : (set : Set) (driver : ℕ) (orders : List LockOrder) (o : LockOrder)
    → AreLockOrders set driver orders → IsLockOrder set driver o
    → AreLockOrders set (driver + 1) (orders ++ o ∷ [])
orders_more set driver orders o h is =
    record {
      long = omega (arith, length_more orders o, h.long);
      each = λ k order there. elim (get_last orders o order k there) [
        | inl before ↦ h.each k order before
        | inr last ↦
            (subst (λ (x : LockOrder). IsLockOrder set k x) last.1
            (subst (λ (n : ℕ). IsLockOrder set n o) (sym (last.0 ∙ h.long)) is))
      ];
    }

-- a number without a driver has any order
no_driver : (set : Set) (driver : ℕ) → length set.drivers ≤ driver
    → (place : Guard → ℕ) × IsOrder set driver place
no_driver set driver late = (
  λ lock. 0,
  record {
    few = λ lock. omega arith;
    rises = λ held taken u. absurd (no_routine set driver 0 held taken u
        (λ d there.
        (let within : driver < length set.drivers = slice_get_within set.drivers driver d there in
        absurd (omega arith)))
        (omega arith));
  },
)

order_by : (set : Set) (driver : ℕ) (order : LockOrder) → IsLockOrder set driver order
    → IsOrdered order → (place : Guard → ℕ) × IsOrder set driver place
order_by set driver (Ordered locks) is ordered = (is.0.place, is.0.order)
order_by set driver (Cycle edges) is ordered = absurd ordered

some_order : (orders : List LockOrder) (k : ℕ) → k < length orders
    → (order : LockOrder) × (slice_get orders k ≡ Some order)
some_order [] k low = absurd (omega arith)
some_order (o ∷ orders) zero low = (o, refl)
some_order (o ∷ orders) (suc k) low = some_order orders k (omega arith)

pub all_ordered : (set : Set) (orders : List LockOrder)
    → AreLockOrders set (length set.drivers) orders → AreAllOrdered orders → HasLockOrders set
all_ordered set orders h ordered = λ driver.
    elim (cases_lt driver (length set.drivers)) [
      | inl within ↦
          (let some : (order : LockOrder) × (slice_get orders driver ≡ Some order) =
          some_order orders driver (omega (arith, h.long, within)) in
          order_by set driver some.0 (h.each driver some.0 some.1) (ordered driver some.0 some.1))
      | inr late ↦ no_driver set driver late
    ]
