-- The cycles among some orders are told one after another.
use Rattle.laws_runs.proofs.Common.{ap, append_assoc, arith, inl, inr, refl, subst, sym, cases_lt, slice_get-get_or, slice_get_within, List, Some, [], Bool, true, false, length, slice_get, ℕ, ◌+◌, ◌<◌, ◌≡◌, ◌≤◌, ◌∙◌, ◌++◌}
use Rattle.std.specs.Prelude.{get_or, ◌||◌}
use Rattle.laws_runs.specs.Order.{HasLockOrders}
use Rattle.model.specs.Set.{Set}
use Rattle.verifier_orders.specs.declared.order.LockOrder.{LockOrder}
use Rattle.verifier_orders.specs.declared.order.LockOrder.TheVariants.{Ordered, Cycle}
use Rattle.verifier_orders.specs.Orders.{AreAllOrdered, AreLockOrders, IsLockOrder, IsOrdered}
use Rattle.verifier_warnings.specs.Orders.{EndsRightly, EndsWith, HasCycle, IsCycle, IsCycleAmong, TellsCycle, TellsCycles, TellsEnd, TellsOrders, advice, no_ring}

-- those among so many
abbrev pub TellsSome : List LockOrder → ℕ → List ℕ → List ℕ → Bool → Type 0
TellsSome orders count start words true = IsCycleAmong orders × EndsWith words advice
TellsSome orders count start words false =
    ((k : ℕ) (order : LockOrder) → k < count → slice_get orders k ≡ Some order → IsOrdered order)
    × (words ≡ start)

pub none_told : (orders : List LockOrder) (words : List ℕ) → TellsSome orders 0 words words false
none_told orders words = (λ k order low there. absurd (omega arith), refl)

-- one more is none, or a cycle
order_passed : (orders : List LockOrder) (count : ℕ) (order : LockOrder) (start words : List ℕ)
    (some : Bool) → slice_get orders count ≡ Some order → IsOrdered order
    → TellsSome orders count start words some → TellsSome orders (count + 1) start words some
order_passed orders count order start words true there is told = told
order_passed orders count order start words false there is told = (
  λ k other low at.
      elim (cases_lt k count) [
        | inl before ↦ told.0 k other before at
        | inr late ↦
            (let same : k ≡ count = omega arith in
            let one : Some order ≡ Some other =
            sym there ∙ subst (λ (n : ℕ). slice_get orders n ≡ Some other) same at in
            subst IsOrdered (let is_it : order ≡ other = cc in is_it) is)
      ],
  told.1,
)

pub order_told : (orders : List LockOrder) (count : ℕ) (order : LockOrder)
    (start old new : List ℕ) (some cycle : Bool) → count < length orders
    → order ≡ get_or orders count order → TellsSome orders count start old some
    → TellsCycle order old new cycle → TellsSome orders (count + 1) start new (cycle || some)
order_told orders count order start old new some true low is told more =
    let there : slice_get orders count ≡ Some order =
    slice_get-get_or orders count order low ∙ ap (λ (o : LockOrder). Some o) (sym is) in
    ((count, order, there, more.0), more.1)
order_told orders count order start old new some false low is told more =
    let there : slice_get orders count ≡ Some order =
    slice_get-get_or orders count order low ∙ ap (λ (o : LockOrder). Some o) (sym is) in
    order_passed orders count order start new some there more.0
    (subst (λ (words : List ℕ). TellsSome orders count start words some) (sym more.1) told)

pub all_told : (orders : List LockOrder) (count : ℕ) (start words : List ℕ) (some : Bool)
    → length orders ≤ count → TellsSome orders count start words some
    → TellsCycles orders start words some
all_told orders count start words true late told = told
all_told orders count start words false late told = (
  λ k order there.
      (let low : k < length orders = slice_get_within orders k order there in
      told.0 k order (omega arith) there),
  told.1,
)

-- what all words say of a set
cycle_of : (set : Set) (driver : ℕ) (order : LockOrder) → IsLockOrder set driver order
    → IsCycle order → HasCycle set
cycle_of set driver (Ordered locks) is cycle = absurd cycle
cycle_of set driver (Cycle edges) is cycle = (driver, is.1)

pub told_rightly : (set : Set) (count : ℕ) (orders : List LockOrder) (words : List ℕ)
    → AreLockOrders set count orders → (AreAllOrdered orders → HasLockOrders set)
    → EndsRightly orders words → TellsEnd set words
told_rightly set count orders words h all (inl ordered) = inl (all ordered.0, ordered.1)
told_rightly set count orders words h all (inr told) =
    inr (cycle_of set told.0.0 told.0.1 (h.each told.0.0 told.0.1 told.0.2) told.0.3, told.1)

pub ends_rightly : (orders : List LockOrder) (start words : List ℕ)
    → TellsCycles orders start words true → EndsRightly orders words
ends_rightly orders start words told = inr told

pub ends_so : (orders : List LockOrder) (start old new : List ℕ) → start ≡ []
    → TellsCycles orders start old false → new ≡ old ++ no_ring → EndsRightly orders new
ends_so orders start old new none told is =
    inl (told.0, is ∙ ap (λ (words : List ℕ). words ++ no_ring) (told.1 ∙ none))

-- an end of an end is one of all
end_behind : (words lines end last : List ℕ) → EndsWith words (lines ++ end) → EndsWith end last
    → EndsWith words last
end_behind words lines end last whole part = (
  (whole.0 ++ lines) ++ part.0,
  whole.1 ∙ ap (λ (rest : List ℕ). whole.0 ++ (lines ++ rest)) part.1
      ∙ sym (append_assoc whole.0 lines (part.0 ++ last))
      ∙ sym (append_assoc (whole.0 ++ lines) part.0 last),
)

pub orders_told : (set : Set) (words lines end : List ℕ) → TellsEnd set end
    → EndsWith words (lines ++ end) → TellsOrders set words
orders_told set words lines end (inl ordered) whole =
    inl (ordered.0, end_behind words lines end no_ring whole ([], ordered.1))
orders_told set words lines end (inr cycle) whole =
    inr (cycle.0, end_behind words lines end advice whole cycle.1)
