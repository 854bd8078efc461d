-- A shortest cycle of locks has at most nine edges: of ten that lead on two are walked under the same
-- lock, and those between them are a cycle.
use Rattle.laws_runs.proofs.Common.{ap, arith, inl, inr, refl, subst, sym, ◌∙◌, cases_eq, cases_lt, get_or_from_slice_get, slice_get_within, ◌⊎◌, All, List, Some, [], false, true, Bool, length, slice_get, suc, zero, ℕ, ◌+◌, ◌<◌, ◌∷◌, ◌≡◌, ◌≢◌, ◌≤◌, Set, member, IsSound, IsTypable, Abs, CancelLock, DeviceLock, Guard}
use Rattle.std.proofs.Common.{get_or-set_other, length-set, replicate, slice_set, if◌then◌else◌}
use Rattle.std.specs.Prelude.{get_or}
use Rattle.laws_runs.specs.Order.{TakesUnder}
use Rattle.model.specs.LocalRule.{holds_guard, is_held}
use Rattle.pafteis_world.specs.Locks.{IsShort}
use Rattle.verifier_orders.specs.declared.names.Edge.{Edge}
use Rattle.verifier_orders.specs.declared.order.LockOrder.{LockOrder}
use Rattle.verifier_orders.specs.declared.order.LockOrder.TheVariants.{Ordered, Cycle}
use Rattle.verifier_orders.specs.Edges.{number_of}
use Rattle.verifier_orders.specs.Names.{guard_of}
use Rattle.verifier_orders.specs.Orders.{IsEdge, IsLockCycle, IsLockOrder, IsShortestCycle, LeadOn}
use Rattle.verifier_orders.proofs.Finding.{beyond_false, eight_arrives}
use Rattle.verifier_orders.proofs.Ordering.{held_guard}
use Rattle.verifier_orders.proofs.Ways.{none_seen}

-- how many numbers weren't seen
abbrev unseen : List Bool → ℕ
unseen [] = 0
unseen (b ∷ seen) = (if b then 0 else 1) + unseen seen

unseen_set : (seen : List Bool) (n : ℕ) → n < length seen → get_or seen n false ≡ false
    → unseen (slice_set seen n true) + 1 ≡ unseen seen
unseen_set [] n within at = absurd (omega arith)
unseen_set (b ∷ seen) zero within at = rw at (omega arith)
unseen_set (b ∷ seen) (suc n) within at = omega (arith, unseen_set seen n (omega arith) at)

-- a number stands at two places
record Twice (ns : List ℕ) : Type 0 where
  number : ℕ
  first : ℕ
  second : ℕ
  apart : first < second
  one : slice_get ns first ≡ Some number
  other : slice_get ns second ≡ Some number

-- or a number was seen
abbrev WasSeen : List ℕ → List Bool → Type 0
WasSeen ns seen =
    (k : ℕ) × (n : ℕ) × (slice_get ns k ≡ Some n) × (get_or seen n false ≡ true)

seen_by : (n : ℕ) (ns : List ℕ) (seen : List Bool) (k m : ℕ) → slice_get ns k ≡ Some m
    → get_or (slice_set seen n true) m false ≡ true → (m ≡ n) ⊎ (m ≢ n)
    → Twice (n ∷ ns) ⊎ WasSeen (n ∷ ns) seen
seen_by n ns seen k m there is (inl same) =
    inl (record {
      number = n;
      first = 0;
      second = suc k;
      apart = omega arith;
      one = refl;
      other = there ∙ ap Some same;
    })
seen_by n ns seen k m there is (inr apart) =
    inr (suc k, m, there, sym (get_or-set_other seen n m true false apart) ∙ is)

seen_more : (n : ℕ) (ns : List ℕ) (seen : List Bool)
    → Twice ns ⊎ WasSeen ns (slice_set seen n true) → Twice (n ∷ ns) ⊎ WasSeen (n ∷ ns) seen
seen_more n ns seen (inl t) =
    inl (record {
      number = t.number;
      first = suc t.first;
      second = suc t.second;
      apart = omega (arith, t.apart);
      one = t.one;
      other = t.other;
    })
seen_more n ns seen (inr w) = seen_by n ns seen w.0 w.1 w.2 w.3 (cases_eq w.1 n)

meets_by : (n : ℕ) (ns : List ℕ) (seen : List Bool) (b : Bool) → get_or seen n false ≡ b
    → (get_or seen n false ≡ false → Twice ns ⊎ WasSeen ns (slice_set seen n true))
    → Twice (n ∷ ns) ⊎ WasSeen (n ∷ ns) seen
meets_by n ns seen true is rest = inr (0, n, refl, is)
meets_by n ns seen false is rest = seen_more n ns seen (rest is)

-- more numbers below nine than weren't seen: one was seen, or stands at two places
meets : (ns : List ℕ) (seen : List Bool) → length seen ≡ 9 → All (λ (n : ℕ). n < 9) ns
    → unseen seen < length ns → Twice ns ⊎ WasSeen ns seen
meets [] seen long low few = absurd (omega arith)
meets (n ∷ ns) seen long low few =
    let small : n < 9 = low 0 0 (omega arith) in
    meets_by n ns seen (get_or seen n false) refl
    (λ new.
    (let less : unseen (slice_set seen n true) + 1 ≡ unseen seen =
    unseen_set seen n (omega (arith, long, small)) new in
    meets ns (slice_set seen n true) (length-set seen n true ∙ long)
    (λ k d l. low (suc k) d (omega arith)) (omega (arith, few, less))))

-- the locks under which edges are walked, by number
abbrev helds : List Edge → List ℕ
helds [] = []
helds (e ∷ edges) = number_of e.held ∷ helds edges

helds_long : (edges : List Edge) → length (helds edges) ≡ length edges
helds_long [] = refl
helds_long (e ∷ edges) = ap suc (helds_long edges)

record At (edges : List Edge) (k n : ℕ) : Type 0 where
  edge : Edge
  there : slice_get edges k ≡ Some edge
  number : number_of edge.held ≡ n

held_at : (edges : List Edge) (k n : ℕ) → slice_get (helds edges) k ≡ Some n → At edges k n
held_at [] k n there = cc
held_at (e ∷ edges) zero n there =
    record { edge = e; there = refl; number = cc }
held_at (e ∷ edges) (suc k) n there =
    let rest : At edges k n = held_at edges k n there in
    record { edge = rest.edge; there = rest.there; number = rest.number }

small : (s : Abs) (g : Guard) → length s.locks ≡ 8 → holds_guard s g ≡ true → number_of g < 9
small s CancelLock eight holds = omega arith
small s (DeviceLock l) eight holds =
    elim (cases_lt l 8) [
      | inl low ↦ (let is : l < 9 = omega arith in is)
      | inr high ↦
          let none : is_held s l ≡ false = beyond_false s.locks l (omega (arith, eight)) in
          let no : true ≡ false = sym holds ∙ none in
          cc
    ]

module _ (set : Set) (typable : IsTypable set) (sound : IsSound set) (driver : ℕ) where
  low_held : (e : Edge) → IsEdge set driver e → number_of e.held < 9
  low_held e is =
      let u : TakesUnder set driver e.held e.taken = is.under in
      small u.state e.held
      (eight_arrives (member set driver u.number u.routine) u.position u.state u.arrives) u.holds

  low_helds : (edges : List Edge) → All (IsEdge set driver) edges
      → All (λ (n : ℕ). n < 9) (helds edges)
  low_helds [] each k d l = absurd (omega arith)
  low_helds (e ∷ edges) each zero d l = low_held e (each 0 e (omega arith))
  low_helds (e ∷ edges) each (suc k) d l =
      low_helds edges (λ j f m. each (suc j) f (omega arith)) k d (omega arith)

  -- edges that lead from a lock to another, at most so many
  record Part (from to : Guard) (most : ℕ) : Type 0 where
    edges : List Edge
    on : LeadOn from edges to
    few : length edges ≤ most
    each : All (IsEdge set driver) edges

  each_more : (e : Edge) (edges : List Edge) → IsEdge set driver e → All (IsEdge set driver) edges
      → All (IsEdge set driver) (e ∷ edges)
  each_more e edges is each zero d l = is
  each_more e edges is each (suc k) d l = each k d (omega arith)

  cut : (from to : Guard) (way : List Edge) (k : ℕ) (g : Edge) → LeadOn from way to
      → All (IsEdge set driver) way → slice_get way k ≡ Some g → Part from g.held k
  cut from to [] k g lead each there = cc
  cut from to (e ∷ way) zero g lead each there =
      let same : e ≡ g = cc in
      record {
        edges = [];
        on = sym lead.0 ∙ ap (λ (x : Edge). x.held) same;
        few = omega arith;
        each = λ k d l. absurd (omega arith);
      }
  cut from to (e ∷ way) (suc k) g lead each there =
      let rest : Part e.taken g.held k =
      cut e.taken to way k g lead.1 (λ j f m. each (suc j) f (omega arith)) there in
      record {
        edges = e ∷ rest.edges;
        on = (lead.0, rest.on);
        few = omega (arith, rest.few);
        each = each_more e rest.edges (each 0 e (omega arith)) rest.each;
      }

  -- a cycle of at most so many
  record Round (most : ℕ) : Type 0 where
    edges : List Edge
    few : length edges ≤ most
    is : IsLockCycle set driver edges

  rounded : (from to : Guard) (e : Edge) (way : List Edge) (k : ℕ) (g : Edge)
      → LeadOn from (e ∷ way) to → All (IsEdge set driver) (e ∷ way)
      → slice_get way k ≡ Some g → e.held ≡ g.held → Round (suc k)
  rounded from to e way k g lead each there same =
      let rest : Part e.taken g.held k =
      cut e.taken to way k g lead.1 (λ j f m. each (suc j) f (omega arith)) there in
      record {
        edges = e ∷ rest.edges;
        few = omega (arith, rest.few);
        is = record {
          lock = e.held;
          on = (refl, subst (λ (x : Guard). LeadOn e.taken rest.edges x) (sym same) rest.on);
          some = λ none. cc;
          each = each_more e rest.edges (each 0 e (omega arith)) rest.each;
        };
      }

  between : (from to : Guard) (way : List Edge) (i j : ℕ) (f g : Edge) → i < j
      → LeadOn from way to → All (IsEdge set driver) way → slice_get way i ≡ Some f
      → slice_get way j ≡ Some g → f.held ≡ g.held → Round j
  between from to [] i j f g apart lead each one other same = cc
  between from to (e ∷ way) zero zero f g apart lead each one other same = absurd (omega arith)
  between from to (e ∷ way) zero (suc j) f g apart lead each one other same =
      let is : e ≡ f = cc in
      rounded from to e way j g lead each other (ap (λ (x : Edge). x.held) is ∙ same)
  between from to (e ∷ way) (suc i) zero f g apart lead each one other same =
      absurd (omega arith)
  between from to (e ∷ way) (suc i) (suc j) f g apart lead each one other same =
      let rest : Round j =
      between e.taken to way i j f g (omega arith) lead.1
      (λ k d m. each (suc k) d (omega arith)) one other same in
      record { edges = rest.edges; few = omega (arith, rest.few); is = rest.is }

  edge_at : (cycle : List Edge) (k : ℕ) (e : Edge) → All (IsEdge set driver) cycle
      → slice_get cycle k ≡ Some e → IsEdge set driver e
  edge_at cycle k e each there =
      subst (IsEdge set driver) (get_or_from_slice_get cycle k e e there)
      (each k e (slice_get_within cycle k e there))

  shorter : (cycle : List Edge) → IsShortestCycle set driver cycle → Twice (helds cycle) → ⊥
  shorter cycle h t =
      let one : At cycle t.first t.number = held_at cycle t.first t.number t.one in
      let other : At cycle t.second t.number = held_at cycle t.second t.number t.other in
      let first : IsEdge set driver one.edge = edge_at cycle t.first one.edge h.is.each one.there in
      let second : IsEdge set driver other.edge =
      edge_at cycle t.second other.edge h.is.each other.there in
      let same : one.edge.held ≡ other.edge.held =
      held_guard set typable sound driver one.edge.held one.edge.taken first.under
      ∙ ap guard_of (one.number ∙ sym other.number)
      ∙ sym (held_guard set typable sound driver other.edge.held other.edge.taken second.under) in
      let round : Round t.second =
      between h.is.lock h.is.lock cycle t.first t.second one.edge other.edge t.apart h.is.on
      h.is.each one.there other.there same in
      let least : length cycle ≤ length round.edges = h.shortest round.edges round.is in
      let within : t.second < length cycle =
      slice_get_within cycle t.second other.edge other.there in
      absurd (omega (arith, least, within, round.few))

  no_ten : (cycle : List Edge) → IsShortestCycle set driver cycle
      → Twice (helds cycle) ⊎ WasSeen (helds cycle) (replicate 9 false) → ⊥
  no_ten cycle h (inl t) = shorter cycle h t
  no_ten cycle h (inr w) = (let no : true ≡ false = sym w.3 ∙ none_seen w.1 9 in cc)

  nine_edges : (cycle : List Edge) → IsShortestCycle set driver cycle → length cycle ≤ 9
  nine_edges cycle h =
      elim (cases_lt 9 (length cycle)) [
        | inl more ↦
            absurd (no_ten cycle h
            (meets (helds cycle) (replicate 9 false) refl (low_helds cycle h.is.each)
            (omega (arith, helds_long cycle))))
        | inr few ↦ few
      ]

  pub short : (order : LockOrder) → IsLockOrder set driver order → IsShort order
  short (Ordered locks) h = tt
  short (Cycle edges) h = nine_edges edges.items h.0
