-- The keys in the order of issue, as the one list of links.
use Rattle.std.proofs.Common.{◌≡◌, ℕ, zero, suc, Bool, true, false, IsTrue, List, [], ◌∷◌, cond, get_or, inl, inr, length, ap, nat_eq, refl, arith}
use Rattle.std.specs.Prelude.{remove}
use Rattle.std.proofs.lemmas.Bool.Decides.{eqb_tells}
use Rattle.std.proofs.lemmas.List.{get_or-set_same, get_or_past}
use Rattle.model.specs.Queues.{is_linked, unlinked}
use Rattle.devqueue.proofs.Free.{none_has}
use Rattle.devqueue.specs.Lists.{Lists, entries_of, is_free, with_entries}
use Rattle.iomgr.specs.Numbers.{number_place}
use Rattle.iomgr.specs.Slots.{Lacks}

-- a key that isn't among them is free
lacks_linked : (key : ℕ) (keys : List ℕ) → Lacks key keys → is_linked keys key ≡ false
lacks_linked key [] l = refl
lacks_linked key (other ∷ keys) l =
    elim (eqb_tells other key) [
      | inl e ↦ absurd (l.0 e.1)
      | inr e ↦ rw e.0 (lacks_linked key keys l.1)
    ]

pub order_free : (order : Lists) (key : ℕ) → length order.lists ≡ 1
    → Lacks key (entries_of order 0) → IsTrue (is_free order key)
order_free order key one l = rw (none_has key order.lists each) refl
  where
    each : (list : ℕ) → is_linked (get_or order.lists list []) key ≡ false
    each zero = lacks_linked key (entries_of order 0) l
    each (suc list) = rw (get_or_past order.lists (suc list) [] (omega (arith, one))) refl

pub order_set : (order : Lists) (keys : List ℕ) → length order.lists ≡ 1
    → entries_of (with_entries order 0 keys) 0 ≡ keys
order_set order keys one = get_or-set_same order.lists 0 keys [] (omega (arith, one))

-- a key that is unlinked is removed from its place
pub unlinked_place : (keys : List ℕ) (key : ℕ)
    → unlinked keys key ≡ remove keys (number_place keys key)
unlinked_place [] key = refl
unlinked_place (first ∷ keys) key = by (nat_eq first key) (unlinked_place keys key)
  where
    by : (b : Bool) → unlinked keys key ≡ remove keys (number_place keys key)
        → cond b keys (first ∷ unlinked keys key)
        ≡ remove (first ∷ keys) (cond b 0 (suc (number_place keys key)))
    by true more = refl
    by false more = ap (λ (rest : List ℕ). first ∷ rest) more
