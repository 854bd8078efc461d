-- What is told of locks and edges by name, of what is known by number.
use Rattle.laws_runs.proofs.Common.{ap, arith, inl, inr, refl, subst, sym, zero, ◌∙◌, cases_eq, eq-eqb, ne_eqb, All, List, Some, [], length, slice_get, suc, ℕ, ◌++◌, ◌+◌, ◌<◌, ◌∷◌, ◌≡◌, ◌≢◌, ◌≤◌, ◌⊎◌, Set, IsSound, IsTypable, CancelLock, DeviceLock, Guard}
use Rattle.std.specs.Prelude.{get_or, take}
use Rattle.laws_runs.specs.Order.{TakesUnder}
use Rattle.verifier_orders.specs.declared.names.Edge.{Edge}
use Rattle.verifier_orders.specs.declared.ranking.NumberedEdge.{NumberedEdge}
use Rattle.verifier_orders.specs.Cycle.{LeadFrom}
use Rattle.verifier_orders.specs.Edges.{IsNumberedCycle, IsNumberedEdge, number_of, place_in}
use Rattle.verifier_orders.specs.Names.{AreByPlace, all_named, guard_of, named}
use Rattle.verifier_orders.specs.Orders.{IsEdge, IsLockCycle, LeadOn}
use Rattle.verifier_orders.specs.Ranking.{IsAt}
use Rattle.verifier_orders.proofs.Ordering.{held_guard, taken_guard}

-- the number of the lock of a number
guarded_by : (n : ℕ) → (n ≡ 8) ⊎ (n ≢ 8) → number_of (guard_of n) ≡ n
guarded_by n (inl same) = rw (eq-eqb n 8 same) (sym same)
guarded_by n (inr apart) = rw (ne_eqb n 8 apart) refl

pub guarded : (n : ℕ) → number_of (guard_of n) ≡ n
guarded n = guarded_by n (cases_eq n 8)

pub guard_device : (n : ℕ) → n < 8 → DeviceLock n ≡ guard_of n
guard_device n low = rw (ne_eqb n 8 (λ is. absurd (omega arith))) refl

pub guard_cancel : (n : ℕ) → 8 ≤ n → n < 9 → CancelLock ≡ guard_of n
guard_cancel n late low = rw (eq-eqb n 8 (omega arith)) refl

-- a lock more at its place
get_last : (locks : List Guard) (g lock : Guard) (k : ℕ)
    → slice_get (locks ++ g ∷ []) k ≡ Some lock
    → (slice_get locks k ≡ Some lock) ⊎ ((k ≡ length locks) × (g ≡ lock))
get_last [] g lock zero there = inr (refl, (let same : Some g ≡ Some lock = there in cc))
get_last [] g lock (suc k) there = cc
get_last (f ∷ locks) g lock zero there = inl there
get_last (f ∷ locks) g lock (suc k) there =
    elim (get_last locks g lock k there) [
      | inl before ↦ inl before
      | inr last ↦ inr (ap suc last.0, last.1)
    ]

length_more : (locks : List Guard) (g : Guard) → length (locks ++ g ∷ []) ≡ length locks + 1
length_more [] g = refl
length_more (f ∷ locks) g = omega (arith, length_more locks g)

pub placed_none : (places : List ℕ) → AreByPlace places [] 0
placed_none places =
    record { long = refl; each = λ k lock there. cc; known = λ k lock there. cc }

pub placed_more : (places : List ℕ) (locks : List Guard) (count n : ℕ)
    → AreByPlace places locks count → n < 9 → IsAt places n count
    → AreByPlace places (locks ++ guard_of n ∷ []) (count + 1)
placed_more places locks count n h low at =
    record {
      long = omega (arith, length_more locks (guard_of n), h.long);
      each = λ k lock there. elim (get_last locks (guard_of n) lock k there) [
        | inl before ↦ h.each k lock before
        | inr last ↦
            (subst (λ (g : Guard). place_in places g ≡ k) last.1
            (ap (λ (m : ℕ). get_or places m 0) (guarded n) ∙ at ∙ sym (last.0 ∙ h.long)))
      ];
      known = λ k lock there. elim (get_last locks (guard_of n) lock k there) [
        | inl before ↦ h.known k lock before
        | inr last ↦ (n, low, sym last.1)
      ];
    }

-- edges by name lead from lock to lock as they do by number
lead_on : (lock to : ℕ) (way : List NumberedEdge) → LeadFrom lock way to
    → LeadOn (guard_of lock) (all_named way) (guard_of to)
lead_on lock to [] lead = ap guard_of lead
lead_on lock to (e ∷ way) lead = (ap guard_of lead.0, lead_on e.taken to way lead.1)

named_some : (way : List NumberedEdge) → way ≢ [] → all_named way ≢ []
named_some [] some = absurd (some refl)
named_some (e ∷ way) some = λ is. cc

pub named_each : (P : Edge → Type 0) (way : List NumberedEdge)
    → All (λ (e : NumberedEdge). P (named e)) way → All P (all_named way)
named_each P [] each k d l = absurd (omega arith)
named_each P (e ∷ way) each zero d l = each zero e (omega arith)
named_each P (e ∷ way) each (suc k) d l =
    named_each P way (λ j x m. each (suc j) x (omega arith)) k d (omega arith)

pub named_long : (way : List NumberedEdge) → length (all_named way) ≡ length way
named_long [] = refl
named_long (e ∷ way) = ap suc (named_long way)

pub named_begun : (way : List NumberedEdge) → [] ≡ all_named (take 0 way)
named_begun way = refl

take_more : (way : List NumberedEdge) (k : ℕ) (d : NumberedEdge) → k < length way
    → all_named (take k way) ++ named (get_or way k d) ∷ [] ≡ all_named (take (suc k) way)
take_more [] k d low = absurd (omega arith)
take_more (f ∷ way) zero d low = refl
take_more (f ∷ way) (suc k) d low =
    ap (λ (xs : List Edge). named f ∷ xs) (take_more way k d (omega arith))

pub named_more : (way : List NumberedEdge) (place : ℕ) (d : NumberedEdge) (edges : List Edge)
    → place < length way → edges ≡ all_named (take place way)
    → edges ++ named (get_or way place d) ∷ [] ≡ all_named (take (place + 1) way)
named_more way place d edges low so_far =
    let next : suc place ≡ place + 1 = omega arith in
    ap (λ (xs : List Edge). xs ++ named (get_or way place d) ∷ []) so_far
    ∙ take_more way place d low
    ∙ ap (λ (k : ℕ). all_named (take k way)) next

pub named_all : (way : List NumberedEdge) (n : ℕ) → length way ≤ n
    → all_named (take n way) ≡ all_named way
named_all [] zero late = refl
named_all [] (suc n) late = refl
named_all (e ∷ way) zero late = absurd (omega arith)
named_all (e ∷ way) (suc n) late =
    ap (λ (xs : List Edge). named e ∷ xs) (named_all way n (omega arith))

-- an edge says the same by name
abbrev Same : (set : Set) (driver : ℕ) (held taken : Guard) (number position : ℕ) → Type 0
Same set driver held taken number position =
    (v : TakesUnder set driver held taken) × (v.number ≡ number) × (v.position ≡ position)

named_under : (set : Set) (driver : ℕ) (held taken h t : Guard)
    (u : TakesUnder set driver held taken) → held ≡ h → taken ≡ t
    → Same set driver h t u.number u.position
named_under set driver held taken h t u first second =
    subst (λ (g : Guard). Same set driver g t u.number u.position) first
    (subst (λ (g : Guard). Same set driver held g u.number u.position) second (u, refl, refl))

module _ (set : Set) (typable : IsTypable set) (sound : IsSound set) (driver : ℕ) where
  pub named_edge : (e : NumberedEdge) → IsNumberedEdge set driver e → IsEdge set driver (named e)
  named_edge e is =
      let same : Same set driver (guard_of e.held) (guard_of e.taken) is.under.number
      is.under.position =
      named_under set driver is.held is.taken (guard_of e.held) (guard_of e.taken) is.under
      (held_guard set typable sound driver is.held is.taken is.under ∙ ap guard_of (sym is.held_is))
      (taken_guard set typable sound driver is.held is.taken is.under
      ∙ ap guard_of (sym is.taken_is)) in
      record { under = same.0; routine = same.1 ∙ is.routine; position = same.2 ∙ is.position }

  pub cycle_named : (cycle : List NumberedEdge) → IsNumberedCycle set driver cycle
      → IsLockCycle set driver (all_named cycle)
  cycle_named cycle is =
      record {
        lock = guard_of is.lock;
        on = lead_on is.lock is.lock cycle is.on;
        some = named_some cycle is.some;
        each = named_each (IsEdge set driver) cycle
            (λ k d l. named_edge (get_or cycle k d) (is.each k d l));
      }

-- and by number as they do by name
abbrev pub numbered : Edge → NumberedEdge
numbered e =
    record {
      held = number_of e.held;
      taken = number_of e.taken;
      routine = e.routine;
      at = e.at;
    }

abbrev pub all_numbered : List Edge → List NumberedEdge
all_numbered [] = []
all_numbered (e ∷ edges) = numbered e ∷ all_numbered edges

pub lead_numbered : (lock to : Guard) (edges : List Edge) → LeadOn lock edges to
    → LeadFrom (number_of lock) (all_numbered edges) (number_of to)
lead_numbered lock to [] on = ap number_of on
lead_numbered lock to (e ∷ edges) on =
    (ap number_of on.0, lead_numbered e.taken to edges on.1)

numbered_some : (edges : List Edge) → edges ≢ [] → all_numbered edges ≢ []
numbered_some [] some = absurd (some refl)
numbered_some (e ∷ edges) some = λ is. cc

pub numbered_long : (edges : List Edge) → length (all_numbered edges) ≡ length edges
numbered_long [] = refl
numbered_long (e ∷ edges) = ap suc (numbered_long edges)

numbered_edge : (set : Set) (driver : ℕ) (e : Edge) → IsEdge set driver e
    → IsNumberedEdge set driver (numbered e)
numbered_edge set driver e is =
    record {
      held = e.held;
      taken = e.taken;
      under = is.under;
      held_is = refl;
      taken_is = refl;
      routine = is.routine;
      position = is.position;
    }

pub numbered_each : (set : Set) (driver : ℕ) (edges : List Edge) → All (IsEdge set driver) edges
    → All (IsNumberedEdge set driver) (all_numbered edges)
numbered_each set driver [] each k d l = absurd (omega arith)
numbered_each set driver (e ∷ edges) each zero d l =
    numbered_edge set driver e (each zero e (omega arith))
numbered_each set driver (e ∷ edges) each (suc k) d l =
    numbered_each set driver edges (λ j x m. each (suc j) x (omega arith)) k d (omega arith)

pub cycle_numbered : (set : Set) (driver : ℕ) (cycle : List Edge) → IsLockCycle set driver cycle
    → IsNumberedCycle set driver (all_numbered cycle)
cycle_numbered set driver cycle is =
    record {
      lock = number_of is.lock;
      on = lead_numbered is.lock is.lock cycle is.on;
      some = numbered_some cycle is.some;
      each = numbered_each set driver cycle is.each;
    }
