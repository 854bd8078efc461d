-- Of locks in an order, those in pairs.
use Rattle.laws_runs.proofs.Common.{ap, arith, cond, inl, inr, refl, subst, sym, zero, suc, eq-eqb, eqb-true, get_or_from_slice_get, slice_get-get_or, slice_get_within, Bool, List, Some, [], true, false, slice_get, ℕ, ◌<◌, ◌∷◌, ◌≡◌, ◌||◌, ◌⊎◌, Set, CancelLock, DeviceLock, Guard}
use Rattle.std.specs.Prelude.{get_or}
use Rattle.std.specs.List.{Any, Contains, filter}
use Rattle.std.proofs.lemmas.List.Elements.{Contains-append_right, filter_passes}
use Rattle.std.proofs.lemmas.List.Folds.{Any-from_list_any, list_any-from_Any}
use Rattle.std.proofs.lemmas.List.Kept.{AllPairs-filter}
use Rattle.laws_runs.specs.Order.{TakesUnder}
use Rattle.verifier_orders.specs.declared.names.Edge.{Edge}
use Rattle.verifier_orders.specs.Orders.{AreOrdered, ArePaired, ArePairs, HasPair, IsEdge, IsInPair, is_in, is_of, same_lock}

locks_same : (lock other : Guard) → same_lock lock other ≡ true → lock ≡ other
locks_same (DeviceLock spin) (DeviceLock other) is = ap (λ (n : ℕ). DeviceLock n) (eqb-true spin other is)
locks_same (DeviceLock spin) CancelLock is = cc
locks_same CancelLock (DeviceLock other) is = cc
locks_same CancelLock CancelLock is = refl

same_as : (lock other : Guard) → lock ≡ other → same_lock lock other ≡ true
same_as (DeviceLock spin) (DeviceLock other) is =
    eq-eqb spin other (let same : spin ≡ other = cc in same)
same_as (DeviceLock spin) CancelLock is = cc
same_as CancelLock (DeviceLock other) is = cc
same_as CancelLock CancelLock is = refl

-- a lock of an edge is in a pair, and of each pair there is an edge
either : (one other : Bool) → (one || other) ≡ true → (one ≡ true) ⊎ (other ≡ true)
either true other is = inl refl
either false other is = inr is

first_so : (one other : Bool) → one ≡ true → (one || other) ≡ true
first_so true other is = refl
first_so false other is = cc

second_so : (one other : Bool) → other ≡ true → (one || other) ≡ true
second_so true other is = refl
second_so false other is = is

module _ (set : Set) (driver : ℕ) (pairs : List Edge) (h : ArePairs set driver pairs) where
  pair_by : (lock : Guard) (e : Edge) → IsEdge set driver e
      → (same_lock e.held lock ≡ true) ⊎ (same_lock e.taken lock ≡ true)
      → IsInPair set driver lock
  pair_by lock e is (inl held) = (
    e.taken,
    inl (subst (λ (g : Guard). TakesUnder set driver g e.taken)
        (locks_same e.held lock held) is.under),
  )
  pair_by lock e is (inr taken) = (
    e.held,
    inr (subst (λ (g : Guard). TakesUnder set driver e.held g)
        (locks_same e.taken lock taken) is.under),
  )

  pair_of : (lock : Guard) → is_in pairs lock ≡ true → IsInPair set driver lock
  pair_of lock is =
      let some : Any (λ (e : Edge). is_of lock e ≡ true) pairs =
      Any-from_list_any (is_of lock) pairs is in
      pair_by lock some.1
      (subst (λ (e : Edge). IsEdge set driver e) some.3 (h.each some.0 some.1 some.2))
      (either (same_lock some.1.held lock) (same_lock some.1.taken lock) some.4)

  is_in_by : (lock held taken : Guard) → TakesUnder set driver held taken
      → ((e : Edge) → e.held ≡ held → e.taken ≡ taken → is_of lock e ≡ true)
      → is_in pairs lock ≡ true
  is_in_by lock held taken under so =
      let has : HasPair pairs held taken = h.all held taken under in
      list_any-from_Any (is_of lock) pairs (
        has.0,
        has.1,
        slice_get_within pairs has.0 has.1 has.2,
        get_or_from_slice_get pairs has.0 has.1 has.1 has.2,
        so has.1 has.3 has.4,
      )

  is_in_of : (lock other : Guard)
      → TakesUnder set driver lock other ⊎ TakesUnder set driver other lock
      → is_in pairs lock ≡ true
  is_in_of lock other (inl under) =
      is_in_by lock lock other under (λ e held taken.
      first_so (same_lock e.held lock) (same_lock e.taken lock) (same_as e.held lock held))
  is_in_of lock other (inr under) =
      is_in_by lock other lock under (λ e held taken.
      second_so (same_lock e.held lock) (same_lock e.taken lock) (same_as e.taken lock taken))

-- what passes is kept
first_kept : (b : Bool) (lock other : Guard) (rest : List Guard) → b ≡ true → lock ≡ other
    → Contains (cond b (lock ∷ rest) rest) other
first_kept true lock other rest is same = (zero, omega arith, same)
first_kept false lock other rest is same = cc

later_kept : (b : Bool) (lock other : Guard) (rest : List Guard) → Contains rest other
    → Contains (cond b (lock ∷ rest) rest) other
later_kept true lock other rest has = Contains-append_right (lock ∷ []) rest other has
later_kept false lock other rest has = has

kept : (passes : Guard → Bool) (locks : List Guard) (k : ℕ) (lock : Guard)
    → slice_get locks k ≡ Some lock → passes lock ≡ true → Contains (filter passes locks) lock
kept passes [] k lock there is = cc
kept passes (first ∷ locks) zero lock there is =
    let same : first ≡ lock = cc in
    first_kept (passes first) first lock (filter passes locks)
    (subst (λ (g : Guard). passes g ≡ true) (sym same) is) same
kept passes (first ∷ locks) (suc k) lock there is =
    later_kept (passes first) first lock (filter passes locks) (kept passes locks k lock there is)

pub paired : (set : Set) (driver : ℕ) (pairs : List Edge) (locks : List Guard)
    → AreOrdered set driver locks → ArePairs set driver pairs
    → ArePaired set driver (filter (is_in pairs) locks)
paired set driver pairs locks ordered h =
    record {
      place = ordered.place;
      order = ordered.order;
      rises = AllPairs-filter (λ (one later : Guard). ordered.place one < ordered.place later)
          (is_in pairs) locks
          (λ i j d low small. omega (
            arith,
            ordered.placed i (get_or locks i d) (slice_get-get_or locks i d (omega arith)),
            ordered.placed j (get_or locks j d) (slice_get-get_or locks j d small),
          ));
      each = λ k d l. pair_of set driver pairs h (get_or (filter (is_in pairs) locks) k d)
          (filter_passes (is_in pairs) locks k d l);
      all = λ lock pair. kept (is_in pairs) locks (ordered.place lock) lock
          (ordered.has lock pair) (is_in_of set driver pairs h lock pair.0 pair.1);
    }
