-- From places to an order of the locks, and from a cycle to that there is none.
use Rattle.laws_runs.proofs.Common.{ap, arith, inl, inr, refl, subst, sym, ◌∙◌, cases_eq, cases_lt, eq-eqb, ◌⊎◌, get_or_from_slice_get, slice_get_within, ne_eqb, All, List, Some, [], false, length, slice_get, suc, zero, true, ℕ, ◌<◌, ◌∷◌, ◌≡◌, ◌≢◌, ◌≤◌, Set, member, IsSound, IsTypable, OperandFits, Abs, Instr, Acquire, AcquireCancel, CancelLock, DeviceLock, Guard, led}
use Rattle.std.specs.Prelude.{get_or}
use Rattle.laws_runs.specs.Order.{IsOrder, TakesUnder, lock_named}
use Rattle.verifier_orders.specs.declared.ranking.NumberedEdge.{NumberedEdge}
use Rattle.verifier_orders.specs.Cycle.{AreFirst, HasWay, IsAmong, IsLeastCycle, LeadFrom, Returns}
use Rattle.verifier_orders.specs.Edges.{AreEdgesOf, HasEdge, HasNoOrder, IsNumberedEdge, IsNumberedCycle, number_of, place_in}
use Rattle.verifier_orders.specs.Names.{guard_of}
use Rattle.verifier_orders.specs.Ranking.{AreRanked, AreWithin, IsWithin}
use Rattle.verifier_orders.proofs.Finding.{beyond_false, eight_arrives}
use Rattle.verifier_orders.proofs.Ways.{at_place}
use Rattle.model.specs.LocalRule.{holds_guard, is_held}

-- places are an order
pub ranked_order : (set : Set) (driver : ℕ) (edges : List NumberedEdge) (places : List ℕ)
    → AreEdgesOf set driver edges → AreRanked edges places
    → IsOrder set driver (place_in places)
ranked_order set driver edges places h ranked =
    record {
      few = λ lock. ranked.few (number_of lock);
      rises = λ held taken u.
          let has : HasEdge edges held taken = h.all held taken u in
          let up : get_or places has.1.held 0 < get_or places has.1.taken 0 =
          at_place (λ (e : NumberedEdge). get_or places e.held 0 < get_or places e.taken 0) edges has.0 has.1 ranked.rises has.2 in
          subst (λ (n : ℕ). get_or places n 0 < get_or places (number_of taken) 0) has.3
          (subst (λ (n : ℕ). get_or places has.1.held 0 < get_or places n 0) has.4 up);
    }

-- a cycle of the edges is one of the driver
lead_first : (edges : List NumberedEdge) (to left lock at : ℕ) (way : List NumberedEdge)
    → AreFirst edges to left lock way at → LeadFrom lock way at
lead_first edges to left lock at [] h = h
lead_first edges to left lock at (e ∷ way) h =
    (h.0.is.0, lead_first edges to left e.taken at way h.1)

among_first : (edges : List NumberedEdge) (to left lock at : ℕ) (way : List NumberedEdge)
    → AreFirst edges to left lock way at → All (IsAmong edges) way
among_first edges to left lock at [] h k d l = absurd (omega arith)
among_first edges to left lock at (e ∷ way) h zero d l = (h.0.place, h.0.there)
among_first edges to left lock at (e ∷ way) h (suc k) d l =
    among_first edges to left e.taken at way h.1 k d (omega arith)

among_cons : (edges : List NumberedEdge) (e : NumberedEdge) (way : List NumberedEdge)
    → IsAmong edges e → All (IsAmong edges) way → All (IsAmong edges) (e ∷ way)
among_cons edges e way one all zero d l = one
among_cons edges e way one all (suc k) d l = all k d (omega arith)

cycle_among : (edges cycle : List NumberedEdge) → IsLeastCycle edges cycle
    → All (IsAmong edges) cycle
cycle_among edges cycle is =
    subst (λ (xs : List NumberedEdge). All (IsAmong edges) xs) (sym is.parts)
    (among_cons edges is.first is.rest (is.begins.place, is.begins.there)
    (among_first edges is.first.held 0 is.first.taken is.first.held is.rest is.on))

pub cycle_shown : (set : Set) (driver : ℕ) (edges cycle : List NumberedEdge)
    → AreEdgesOf set driver edges → IsLeastCycle edges cycle → IsNumberedCycle set driver cycle
cycle_shown set driver edges cycle h is =
    record {
      lock = is.first.held;
      on = subst (λ (xs : List NumberedEdge). LeadFrom is.first.held xs is.first.held)
          (sym is.parts)
          (refl, lead_first edges is.first.held 0 is.first.taken is.first.held is.rest is.on);
      some = λ empty. (let never : is.first ∷ is.rest ≡ [] = sym is.parts ∙ empty in cc);
      each = λ k d within.
          (let place : IsAmong edges (get_or cycle k d) = cycle_among edges cycle is k d within in
          at_place (IsNumberedEdge set driver) edges place.0 (get_or cycle k d) h.each place.1);
    }

-- and no cycle of the driver is shorter
module _ (set : Set) (driver : ℕ) (edges : List NumberedEdge) (h : AreEdgesOf set driver edges)
  where
    kept : (f : NumberedEdge) → IsNumberedEdge set driver f
        → (e : NumberedEdge) × IsAmong edges e × (e.held ≡ f.held) × (e.taken ≡ f.taken)
    kept f is =
        let has : HasEdge edges is.held is.taken = h.all is.held is.taken is.under in
        (has.1, (has.0, has.2), has.3 ∙ sym is.held_is, has.4 ∙ sym is.taken_is)

    pub way_of : (from to : ℕ) (way : List NumberedEdge) → LeadFrom from way to
        → All (IsNumberedEdge set driver) way → HasWay edges from to (length way)
    way_of from to [] lead each = lead
    way_of from to (f ∷ way) lead each =
        let own : (e : NumberedEdge) × IsAmong edges e × (e.held ≡ f.held) × (e.taken ≡ f.taken) =
        kept f (each zero f (omega arith)) in (
          own.0,
          own.1,
          own.2 ∙ lead.0,
          subst (λ (l : ℕ). HasWay edges l to (length way)) (sym own.3)
              (way_of f.taken to way lead.1 (λ k d l. each (suc k) d (omega arith))),
        )

    returning : (lock : ℕ) (f : NumberedEdge) (way : List NumberedEdge)
        → LeadFrom lock (f ∷ way) lock → All (IsNumberedEdge set driver) (f ∷ way)
        → (e : NumberedEdge) × IsAmong edges e × Returns edges (length way) e
    returning lock f way lead each =
        let own : (e : NumberedEdge) × IsAmong edges e × (e.held ≡ f.held) × (e.taken ≡ f.taken) =
        kept f (each zero f (omega arith)) in
        let on : HasWay edges f.taken lock (length way) =
        way_of f.taken lock way lead.1 (λ k d l. each (suc k) d (omega arith)) in (
          own.0,
          own.1,
          subst (λ (l : ℕ). HasWay edges own.0.taken l (length way)) (sym (own.2 ∙ lead.0))
              (subst (λ (l : ℕ). HasWay edges l lock (length way)) (sym own.3) on),
        )

    not_fewer : (cycle : List NumberedEdge) (lock : ℕ) (other : List NumberedEdge)
        → IsLeastCycle edges cycle → LeadFrom lock other lock → other ≢ []
        → All (IsNumberedEdge set driver) other → length cycle ≤ length other
    not_fewer cycle lock [] least lead some each = absurd (some refl)
    not_fewer cycle lock (f ∷ way) least lead some each =
        let long : length cycle ≡ suc (length least.rest) =
        ap (λ (xs : List NumberedEdge). length xs) least.parts in
        elim (cases_lt (length way) (length least.rest)) [
          | inl low ↦
              (let back : (e : NumberedEdge) × IsAmong edges e × Returns edges (length way) e =
              returning lock f way lead each in
              absurd (at_place (λ (e : NumberedEdge). Returns edges (length way) e → ⊥) edges
              back.1.0 back.0 (least.shortest (length way) low) back.1.1 back.2))
          | inr late ↦ omega (arith, long, late)
        ]

    pub no_shorter : (cycle other : List NumberedEdge) → IsLeastCycle edges cycle
        → IsNumberedCycle set driver other → length cycle ≤ length other
    no_shorter cycle other least is =
        not_fewer cycle is.lock other least is.on is.some is.each

guard_by : (l : ℕ) → (l ≡ 8) ⊎ (l ≢ 8) → (l ≡ 8 → DeviceLock l ≡ CancelLock)
    → DeviceLock l ≡ guard_of l
guard_by l (inl same) h = rw (eq-eqb l 8 same) (h same)
guard_by l (inr apart) h = rw (ne_eqb l 8 apart) refl

guard_is : (g : Guard) → (number_of g ≡ 8 → g ≡ CancelLock) → g ≡ guard_of (number_of g)
guard_is CancelLock h = refl
guard_is (DeviceLock l) h = guard_by l (cases_eq l 8) h

at_code : (code : List Instr) (k : ℕ) (i : Instr) → All OperandFits code
    → slice_get code k ≡ Some i → OperandFits i
at_code code k i all there =
    subst OperandFits (get_or_from_slice_get code k i i there)
    (all k i (slice_get_within code k i there))

module _ (set : Set) (typable : IsTypable set) (sound : IsSound set) (driver : ℕ) where
  no_such : (l : ℕ) → l < 8 → l ≡ 8 → DeviceLock l ≡ CancelLock
  no_such l low same = absurd (omega arith)

  small_taken : (i : Instr) (g : Guard) → lock_named i ≡ Some g → OperandFits i
      → number_of g ≡ 8 → g ≡ CancelLock
  small_taken (Acquire l) g is fits eight =
      let same : DeviceLock l ≡ g = cc in
      let low : l < 8 = fits in
      let number : number_of g ≡ l = ap number_of (sym same) in
      absurd (omega arith)
  small_taken AcquireCancel g is fits eight = (let same : CancelLock ≡ g = cc in sym same)
  small_taken _ g is fits eight = cc

  pub taken_guard : (held taken : Guard) (u : TakesUnder set driver held taken)
      → taken ≡ guard_of (number_of taken)
  taken_guard held taken u =
      guard_is taken
      (small_taken u.instruction taken u.takes
      (at_code u.routine.code u.position u.instruction
      ((led set typable sound).1.known driver u.number u.routine u.is_of).operands u.at))

  held_small : (s : Abs) (l : ℕ) → length s.locks ≡ 8 → is_held s l ≡ true → l ≡ 8
      → DeviceLock l ≡ CancelLock
  held_small s l eight holds same =
      elim (cases_lt l 8) [
        | inl low ↦ absurd (omega arith)
        | inr high ↦
            let none : is_held s l ≡ false = beyond_false s.locks l (omega (arith, eight)) in
            let no : true ≡ false = sym holds ∙ none in
            cc
      ]

  held_eight : (s : Abs) (g : Guard) → length s.locks ≡ 8 → holds_guard s g ≡ true
      → number_of g ≡ 8 → g ≡ CancelLock
  held_eight s CancelLock eight holds same = refl
  held_eight s (DeviceLock l) eight holds same = held_small s l eight holds same

  pub held_guard : (held taken : Guard) (u : TakesUnder set driver held taken)
      → held ≡ guard_of (number_of held)
  held_guard held taken u =
      guard_is held
      (held_eight u.state held
      (eight_arrives (member set driver u.number u.routine) u.position u.state u.arrives) u.holds)

  module _ (place : Guard → ℕ) (order : IsOrder set driver place) where
    edge_rises : (e : NumberedEdge) → IsNumberedEdge set driver e
        → place (guard_of e.held) < place (guard_of e.taken)
    edge_rises e is =
        let up : place is.held < place is.taken = order.rises is.held is.taken is.under in
        let held : is.held ≡ guard_of e.held =
        held_guard is.held is.taken is.under ∙ ap guard_of (sym is.held_is) in
        let taken : is.taken ≡ guard_of e.taken =
        taken_guard is.held is.taken is.under ∙ ap guard_of (sym is.taken_is) in
        subst (λ (g : Guard). place g < place (guard_of e.taken)) held
        (subst (λ (g : Guard). place is.held < place g) taken up)

    way_rises : (lock to : ℕ) (way : List NumberedEdge) → LeadFrom lock way to
        → All (IsNumberedEdge set driver) way → place (guard_of lock) ≤ place (guard_of to)
    way_rises lock to [] lead each = rw lead (omega arith)
    way_rises lock to (e ∷ way) lead each =
        let first : place (guard_of e.held) < place (guard_of e.taken) =
        edge_rises e (each zero e (omega arith)) in
        let rest : place (guard_of e.taken) ≤ place (guard_of to) =
        way_rises e.taken to way lead.1 (λ k d l. each (suc k) d (omega arith)) in
        rw (← lead.0) (omega arith)

    cycle_never : (lock : ℕ) (way : List NumberedEdge) → LeadFrom lock way lock → way ≢ []
        → All (IsNumberedEdge set driver) way → ⊥
    cycle_never lock [] lead some each = some refl
    cycle_never lock (e ∷ way) lead some each =
        let first : place (guard_of e.held) < place (guard_of e.taken) =
        edge_rises e (each zero e (omega arith)) in
        let rest : place (guard_of e.taken) ≤ place (guard_of lock) =
        way_rises e.taken lock way lead.1 (λ k d l. each (suc k) d (omega arith)) in
        let same : place (guard_of e.held) ≡ place (guard_of lock) =
        ap (λ (n : ℕ). place (guard_of n)) lead.0 in
        absurd (omega arith)

  pub no_order : (cycle : List NumberedEdge) → IsNumberedCycle set driver cycle → HasNoOrder set driver
  no_order cycle is = λ place order. cycle_never place order is.lock cycle is.on is.some is.each

-- the edges of a cycle are within the nine
pub cycle_within : (edges cycle : List NumberedEdge) → AreWithin edges
    → IsLeastCycle edges cycle → AreWithin cycle
cycle_within edges cycle within is = λ k d low.
    (let place : IsAmong edges (get_or cycle k d) = cycle_among edges cycle is k d low in
    at_place IsWithin edges place.0 (get_or cycle k d) within place.1)
