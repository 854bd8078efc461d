-- Of the shortest cycles of a driver the one that is found comes first.
use Rattle.laws_runs.proofs.Common.{ap, arith, inl, inr, refl, subst, sym, ◌∙◌, cases_eq, cases_lt, get_or_from_slice_get, All, List, Some, [], length, slice_get, suc, zero, ℕ, ◌+◌, ◌<◌, ◌∷◌, ◌≡◌, ◌≢◌, ◌≤◌, ◌⊎◌, Set, IsSound, IsTypable, Guard}
use Rattle.verifier_orders.specs.declared.names.Edge.{Edge}
use Rattle.verifier_orders.specs.declared.ranking.NumberedEdge.{NumberedEdge}
use Rattle.verifier_orders.specs.Cycle.{Approaches, AreFirst, HasWay, IsFirstOf, IsLeastCycle, Returns}
use Rattle.verifier_orders.specs.Edges.{AreEdgesOf, ComesBefore, HasEdge, IsFirstEdge, IsNoLater, number_of}
use Rattle.verifier_orders.specs.Names.{all_named, guard_of, named}
use Rattle.verifier_orders.specs.Orders.{AreNoLater, IsBefore, IsEdge, IsLockCycle, IsShortestCycle, LeadOn}
use Rattle.verifier_orders.proofs.Naming.{all_numbered, cycle_named, cycle_numbered, guarded, lead_numbered, named_long, numbered_each, numbered_long}
use Rattle.verifier_orders.proofs.Ordering.{cycle_shown, held_guard, no_shorter, taken_guard, way_of}
use Rattle.verifier_orders.proofs.Ways.{at_place}

-- an edge of the same locks that is no later is kept
record IsKept (edges : List NumberedEdge) (f : Edge) : Type 0 where
  place : ℕ
  edge : NumberedEdge
  there : slice_get edges place ≡ Some edge
  held : edge.held ≡ number_of f.held
  taken : edge.taken ≡ number_of f.taken
  early : IsNoLater f.routine f.at edge

abbrev edge_of : Guard → Guard → ℕ → ℕ → Edge
edge_of held taken routine at =
    record { held = held; taken = taken; routine = routine; at = at }

edge_same : (held taken : Guard) (routine at : ℕ) (f : Edge) → held ≡ f.held → taken ≡ f.taken
    → routine ≡ f.routine → at ≡ f.at → edge_of held taken routine at ≡ f
edge_same held taken routine at f first second third fourth =
    rw (first, second, third, fourth) refl

before_at : (e k : NumberedEdge) (f : Edge)
    → (e.at < k.at) ⊎ ((e.at ≡ k.at) × (e.held < k.held)) → k.at ≤ f.at
    → k.held ≡ number_of f.held
    → (e.at < f.at) ⊎ ((e.at ≡ f.at) × (number_of (guard_of e.held) < number_of f.held))
before_at e k f (inl low) late same = inl (omega arith)
before_at e k f (inr here) late same =
    elim (cases_lt e.at f.at) [
      | inl low ↦ inl low
      | inr high ↦
          (let held : number_of (guard_of e.held) ≡ e.held = guarded e.held in
          let under : e.held < k.held = here.1 in
          inr (omega (arith, here.0), omega (arith, held, same)))
    ]

-- what comes before one that is no later than another comes before that
before_later : (e k : NumberedEdge) (f : Edge) → ComesBefore e k → IsNoLater f.routine f.at k
    → k.held ≡ number_of f.held → IsBefore (named e) f
before_later e k f (inl less) (inl low) same =
    (let first : e.routine < f.routine = omega arith in inl first)
before_later e k f (inl less) (inr at) same =
    (let first : e.routine < f.routine = omega (arith, at.0) in inl first)
before_later e k f (inr within) (inl low) same =
    (let first : e.routine < f.routine = omega (arith, within.0) in inl first)
before_later e k f (inr within) (inr at) same =
    inr (within.0 ∙ at.0, before_at e k f within.1 at.1 same)

module _ (set : Set) (typable : IsTypable set) (sound : IsSound set) (driver : ℕ)
    (edges : List NumberedEdge) (h : AreEdgesOf set driver edges) where
  kept : (f : Edge) → IsEdge set driver f → IsKept edges f
  kept f is =
      let has : HasEdge edges f.held f.taken = h.all f.held f.taken is.under in
      let first : IsFirstEdge set driver has.1 =
      at_place (IsFirstEdge set driver) edges has.0 has.1 h.first has.2 in
      let early : IsNoLater is.under.number is.under.position has.1 =
      first f.held f.taken is.under has.3 has.4 in
      record {
        place = has.0;
        edge = has.1;
        there = has.2;
        held = has.3;
        taken = has.4;
        early = subst (λ (n : ℕ). IsNoLater n f.at has.1) is.routine
            (subst (λ (p : ℕ). IsNoLater is.under.number p has.1) is.position early);
      }

  named_same : (e : NumberedEdge) (f : Edge) → IsEdge set driver f → e.held ≡ number_of f.held
      → e.taken ≡ number_of f.taken → e.routine ≡ f.routine → e.at ≡ f.at → named e ≡ f
  named_same e f is held taken routine at =
      edge_same (guard_of e.held) (guard_of e.taken) e.routine e.at f
      (ap guard_of held ∙ sym (held_guard set typable sound driver f.held f.taken is.under))
      (ap guard_of taken ∙ sym (taken_guard set typable sound driver f.held f.taken is.under))
      routine at

  same_by : (e : NumberedEdge) (f : Edge) → IsEdge set driver f → e.held ≡ number_of f.held
      → e.taken ≡ number_of f.taken → IsNoLater f.routine f.at e
      → IsBefore (named e) f ⊎ (named e ≡ f)
  same_by e f is held taken (inl less) = inl (inl less)
  same_by e f is held taken (inr low) =
      elim (cases_lt e.at f.at) [
        | inl before ↦ inl (inr (low.0, inl before))
        | inr late ↦
            (let most : e.at ≤ f.at = low.1 in
            inr (named_same e f is held taken low.0 (omega arith)))
      ]

  module _ (P : NumberedEdge → Type 0) (e : NumberedEdge) (first : IsFirstOf edges P e) (f : Edge)
      (is : IsEdge set driver f) (own : IsKept edges f) where
    step_by : (first.place ≡ own.place) ⊎ (first.place ≢ own.place) → first.place ≤ own.place
        → IsBefore (named e) f ⊎ (named e ≡ f)
    step_by (inl same) low =
        let there : slice_get edges own.place ≡ Some e =
        subst (λ (k : ℕ). slice_get edges k ≡ Some e) same first.there in
        let one : Some own.edge ≡ Some e = sym own.there ∙ there in
        let is_it : own.edge ≡ e = cc in
        same_by e f is (ap (λ (x : NumberedEdge). x.held) (sym is_it) ∙ own.held)
        (ap (λ (x : NumberedEdge). x.taken) (sym is_it) ∙ own.taken)
        (subst (λ (x : NumberedEdge). IsNoLater f.routine f.at x) is_it own.early)
    step_by (inr apart) low =
        inl (before_later e own.edge f
        (h.ordered first.place own.place e own.edge (omega arith) first.there own.there) own.early
        own.held)

    step : P own.edge → IsBefore (named e) f ⊎ (named e ≡ f)
    step holds =
        elim (cases_lt own.place first.place) [
          | inl low ↦
              absurd (first.before own.place own.edge low
              (subst P (sym (get_or_from_slice_get edges own.place own.edge own.edge own.there))
              holds))
          | inr late ↦ step_by (cases_eq first.place own.place) late
        ]

  -- so many edges lead on from behind an edge
  way_behind : (f : Edge) (own : IsKept edges f) (others : List Edge) (to : Guard) (more last : ℕ)
      → LeadOn f.taken others to → All (IsEdge set driver) others → length others ≡ more
      → last ≡ number_of to → HasWay edges own.edge.taken last more
  way_behind f own others to more last on each long is =
      let numbers : HasWay edges (number_of f.taken) (number_of to) (length (all_numbered others)) =
      way_of set driver edges h (number_of f.taken) (number_of to) (all_numbered others)
      (lead_numbered f.taken to others on) (numbered_each set driver others each) in
      subst (λ (n : ℕ). HasWay edges own.edge.taken last n) (numbered_long others ∙ long)
      (subst (λ (l : ℕ). HasWay edges own.edge.taken l (length (all_numbered others))) (sym is)
      (subst (λ (l : ℕ). HasWay edges l (number_of to) (length (all_numbered others)))
      (sym own.taken) numbers))

  each_behind : (f : Edge) (others : List Edge) → All (IsEdge set driver) (f ∷ others)
      → All (IsEdge set driver) others
  each_behind f others each k d l = each (suc k) d (omega arith)

  taken_on : (e : NumberedEdge) (f : Edge) → named e ≡ f → e.taken ≡ number_of f.taken
  taken_on e f same =
      sym (guarded e.taken) ∙ ap (λ (x : Edge). number_of x.taken) same

  rest_by : (to lock at : ℕ) (e : NumberedEdge) (way : List NumberedEdge) (g last : Guard)
      (f : Edge) (others : List Edge) → AreFirst edges to 0 lock (e ∷ way) at
      → lock ≡ number_of g → to ≡ number_of last → LeadOn g (f ∷ others) last
      → All (IsEdge set driver) (f ∷ others) → length others ≡ length way
      → IsBefore (named e) f ⊎ (named e ≡ f)
  rest_by to lock at e way g last f others first is to_is on each long =
      let edge : IsEdge set driver f = each zero f (omega arith) in
      let own : IsKept edges f = kept f edge in
      step (Approaches edges to (length way + 0) lock) e first.0 f edge own (
        own.held ∙ ap number_of on.0 ∙ sym is,
        way_behind f own others last (length way + 0) to on.1 (each_behind f others each)
            (omega (arith, long)) to_is,
      )

  no_later_rest : (to lock at : ℕ) (way : List NumberedEdge) (g last : Guard)
      (others : List Edge) → AreFirst edges to 0 lock way at → lock ≡ number_of g
      → to ≡ number_of last → LeadOn g others last → All (IsEdge set driver) others
      → length others ≡ length way → AreNoLater (all_named way) others
  no_later_rest to lock at [] g last others first is to_is on each long = tt
  no_later_rest to lock at (e ∷ way) g last [] first is to_is on each long =
      absurd (omega (arith, long))
  no_later_rest to lock at (e ∷ way) g last (f ∷ others) first is to_is on each long =
      elim (rest_by to lock at e way g last f others first is to_is on each (omega (arith, long))) [
        | inl before ↦ inl before
        | inr same ↦
            inr (
              same,
              no_later_rest to e.taken at way f.taken last others first.1 (taken_on e f same) to_is on.1
                  (each_behind f others each) (omega (arith, long)),
            )
      ]

  no_later_by : (lock : Guard) (other : List Edge)
      (cycle : List NumberedEdge) (least : IsLeastCycle edges cycle) → LeadOn lock other lock
      → other ≢ [] → All (IsEdge set driver) other → length other ≡ suc (length least.rest)
      → AreNoLater (all_named (least.first ∷ least.rest)) other
  no_later_by lock [] cycle least on some each long = absurd (some refl)
  no_later_by lock (f ∷ others) cycle least on some each long =
      let edge : IsEdge set driver f = each zero f (omega arith) in
      let own : IsKept edges f = kept f edge in
      let under : own.edge.held ≡ number_of lock = own.held ∙ ap number_of on.0 in
      let back : Returns edges (length least.rest) own.edge =
      way_behind f own others lock (length least.rest) own.edge.held on.1
      (each_behind f others each) (omega (arith, long)) under in
      elim (step (Returns edges (length least.rest)) least.first least.begins f edge own back) [
        | inl before ↦ inl before
        | inr same ↦
            inr (
              same,
              no_later_rest least.first.held least.first.taken least.first.held least.rest f.taken
                  lock others least.on (taken_on least.first f same)
                  (sym (guarded least.first.held) ∙ ap (λ (x : Edge). number_of x.held) same
                  ∙ ap number_of on.0)
                  on.1 (each_behind f others each) (omega (arith, long)),
            )
      ]

  no_later : (cycle : List NumberedEdge) → IsLeastCycle edges cycle → (other : List Edge)
      → IsLockCycle set driver other → length other ≡ length (all_named cycle)
      → AreNoLater (all_named cycle) other
  no_later cycle least other is long =
      let count : length cycle ≡ suc (length least.rest) =
      ap (λ (xs : List NumberedEdge). length xs) least.parts in
      subst (λ (xs : List NumberedEdge). AreNoLater (all_named xs) other) (sym least.parts)
      (no_later_by is.lock other cycle least is.on is.some is.each
      (long ∙ named_long cycle ∙ count))

  pub shortest_named : (cycle : List NumberedEdge) → IsLeastCycle edges cycle
      → IsShortestCycle set driver (all_named cycle)
  shortest_named cycle least =
      record {
        is = cycle_named set typable sound driver cycle
            (cycle_shown set driver edges cycle h least);
        shortest = λ other is.
            (let fewest : length cycle ≤ length (all_numbered other) =
            no_shorter set driver edges h cycle (all_numbered other) least
            (cycle_numbered set driver other is) in
            omega (arith, fewest, named_long cycle, numbered_long other));
        first = no_later cycle least;
      }
