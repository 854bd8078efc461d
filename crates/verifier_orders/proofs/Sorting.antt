-- Edges stand in the order in which they are found, and each is the first between its locks.
use Rattle.laws_runs.proofs.Common.{ap, arith, inl, inr, refl, subst, sym, zero, ◌∙◌, cases_lt, slice_get_within, All, List, Some, [], length, slice_get, suc, ℕ, ◌++◌, ◌+◌, ◌<◌, ◌∷◌, ◌≡◌, ◌⊎◌, Set, Abs, Guard}
use Rattle.std.specs.Prelude.{get_or}
use Rattle.std.proofs.lemmas.List.Elements.{All-push}
use Rattle.laws_runs.specs.Order.{TakesUnder}
use Rattle.verifier_orders.specs.declared.ranking.NumberedEdge.{NumberedEdge}
use Rattle.verifier_orders.specs.Edges.{AreAdded, AreInOrder, ComesBefore, HasEdge, IsAdded, IsFirstEdge, IsNew, IsPast, edge, holds_number, number_of}
use Rattle.verifier_orders.proofs.Ways.{at_place}

pub get_last : (edges : List NumberedEdge) (e f : NumberedEdge) (k : ℕ)
    → slice_get (edges ++ e ∷ []) k ≡ Some f
    → (slice_get edges k ≡ Some f) ⊎ ((k ≡ length edges) × (e ≡ f))
get_last [] e f zero there = inr (refl, (let same : Some e ≡ Some f = there in cc))
get_last [] e f (suc k) there = cc
get_last (g ∷ edges) e f zero there = inl there
get_last (g ∷ edges) e f (suc k) there =
    elim (get_last edges e f k there) [
      | inl before ↦ inl before
      | inr last ↦ inr (ap suc last.0, last.1)
    ]

all_map : (P Q : NumberedEdge → Type 0) (edges : List NumberedEdge)
    → ((e : NumberedEdge) → P e → Q e) → All P edges → All Q edges
all_map P Q edges on all k d l = on (get_or edges k d) (all k d l)

-- what is before a position is before the next one, and before the next routine
past_next : (n at : ℕ) (e : NumberedEdge) → IsPast n at e → IsPast n (at + 1) e
past_next n at e (inl less) = inl less
past_next n at e (inr low) = inr (low.0, (let l : e.at < at = low.1 in omega arith))

past_routine : (n at : ℕ) (e : NumberedEdge) → IsPast n at e → IsPast (n + 1) 0 e
past_routine n at e (inl less) = inl (omega arith)
past_routine n at e (inr low) = inl (omega (arith, low.0))

pub all_past_next : (n at : ℕ) (edges : List NumberedEdge) → All (IsPast n at) edges
    → All (IsPast n (at + 1)) edges
all_past_next n at edges =
    all_map (IsPast n at) (IsPast n (at + 1)) edges (λ e. past_next n at e)

pub all_past_routine : (n at : ℕ) (edges : List NumberedEdge) → All (IsPast n at) edges
    → All (IsPast (n + 1) 0) edges
all_past_routine n at edges =
    all_map (IsPast n at) (IsPast (n + 1) 0) edges (λ e. past_routine n at e)

-- before a position, or at it under one of so many locks
abbrev IsUpTo : ℕ → ℕ → ℕ → NumberedEdge → Type 0
IsUpTo n at count e =
    IsPast n at e ⊎ ((e.routine ≡ n) × (e.at ≡ at) × (e.held < count))

up_more : (n at count : ℕ) (e : NumberedEdge) → IsUpTo n at count e → IsUpTo n at (suc count) e
up_more n at count e (inl past) = inl past
up_more n at count e (inr here) =
    inr (here.0, here.1, (let l : e.held < count = here.2 in omega arith))

up_past : (n at count : ℕ) (e : NumberedEdge) → IsUpTo n at count e → IsPast n (at + 1) e
up_past n at count e (inl past) = past_next n at e past
up_past n at count e (inr here) = inr (here.0, omega (arith, here.1))

module _ (old : List NumberedEdge) (e : NumberedEdge) (ordered : AreInOrder old)
    (before : All (λ (d : NumberedEdge). ComesBefore d e) old) where
  order_by : (j k : ℕ) (f g : NumberedEdge) → j < k
      → (slice_get old j ≡ Some f) ⊎ ((j ≡ length old) × (e ≡ f))
      → (slice_get old k ≡ Some g) ⊎ ((k ≡ length old) × (e ≡ g)) → ComesBefore f g
  order_by j k f g low (inl first) (inl second) = ordered j k f g low first second
  order_by j k f g low (inl first) (inr second) =
      subst (λ (x : NumberedEdge). ComesBefore f x) second.1
      (at_place (λ (d : NumberedEdge). ComesBefore d e) old j f before first)
  order_by j k f g low (inr first) (inl second) =
      (let within : k < length old = slice_get_within old k g second in
      absurd (omega (arith, first.0)))
  order_by j k f g low (inr first) (inr second) = absurd (omega (arith, first.0, second.0))

  order_more : AreInOrder (old ++ e ∷ [])
  order_more = λ j k f g low first second.
      order_by j k f g low (get_last old e f j first) (get_last old e g k second)

module _ (s : Abs) (k n at : ℕ) (old : List NumberedEdge) where
  before_here : (lock : ℕ) (e : NumberedEdge) → IsUpTo n at lock e
      → ComesBefore e (edge lock k n at)
  before_here lock e (inl (inl less)) = inl less
  before_here lock e (inl (inr past)) = inr (past.0, inl past.1)
  before_here lock e (inr here) = inr (here.0, inr (here.1, here.2))

  abbrev Ordered : ℕ → List NumberedEdge → Type 0
  Ordered count edges = AreInOrder edges × All (IsUpTo n at count) edges

  order_added : (lock : ℕ) (before new : List NumberedEdge) → Ordered lock before
      → IsAdded (holds_number s lock) (edge lock k n at) before new → Ordered (suc lock) new
  order_added lock before new h (inl same) =
      subst (Ordered (suc lock)) (sym same.0)
      (h.0, all_map (IsUpTo n at lock) (IsUpTo n at (suc lock)) before (up_more n at lock) h.1)
  order_added lock before new h (inr more) =
      subst (Ordered (suc lock)) (sym more.2) (
        order_more before (edge lock k n at) h.0
            (all_map (IsUpTo n at lock)
            (λ (d : NumberedEdge). ComesBefore d (edge lock k n at)) before (before_here lock) h.1),
        All-push (IsUpTo n at (suc lock)) before (edge lock k n at)
            (all_map (IsUpTo n at lock) (IsUpTo n at (suc lock)) before (up_more n at lock) h.1)
            (inr (refl, refl, omega arith)),
      )

  adds_order : (count : ℕ) (new : List NumberedEdge) → AreAdded s k n at count old new
      → AreInOrder old → All (IsPast n at) old → Ordered count new
  adds_order zero new added ordered past =
      subst (Ordered zero) (sym added)
      (ordered, all_map (IsPast n at) (IsUpTo n at zero) old (λ e is. inl is) past)
  adds_order (suc lock) new added ordered past =
      order_added lock added.0 new (adds_order lock added.0 added.1 ordered past) added.2

  pub adds_in_order : (count : ℕ) (new : List NumberedEdge) → AreAdded s k n at count old new
      → AreInOrder old → All (IsPast n at) old → AreInOrder new × All (IsPast n (at + 1)) new
  adds_in_order count new added ordered past =
      let all : Ordered count new = adds_order count new added ordered past in
      (all.0, all_map (IsUpTo n at count) (IsPast n (at + 1)) new (up_past n at count) all.1)

  module _ (set : Set) (driver : ℕ)
      (stays : (held taken : Guard) (count : ℕ) (new : List NumberedEdge)
      → AreAdded s k n at count old new → HasEdge old held taken → HasEdge new held taken)
      (all : (held taken : Guard) (u : TakesUnder set driver held taken)
      → (u.number < n) ⊎ ((u.number ≡ n) × (u.position < at)) → HasEdge old held taken) where
    not_there : (lock : ℕ) (before : List NumberedEdge) → AreAdded s k n at lock old before
        → IsNew before lock k → (held taken : Guard) (u : TakesUnder set driver held taken)
        → lock ≡ number_of held → k ≡ number_of taken
        → (u.number < n) ⊎ ((u.number ≡ n) × (u.position < at)) → ⊥
    not_there lock before added fresh held taken u is to early =
        let has : HasEdge before held taken =
        stays held taken lock before added (all held taken u early) in
        at_place (λ (e : NumberedEdge). e.taken ≡ k → e.held ≡ lock → ⊥) before has.0 has.1 fresh
        has.2 (has.4 ∙ sym to) (has.3 ∙ sym is)

    first_new : (lock : ℕ) (before : List NumberedEdge) → AreAdded s k n at lock old before
        → IsNew before lock k → IsFirstEdge set driver (edge lock k n at)
    first_new lock before added fresh = λ held taken u is to.
        elim (cases_lt u.number n) [
          | inl less ↦ absurd (not_there lock before added fresh held taken u is to (inl less))
          | inr least ↦
              elim (cases_lt n u.number) [
                | inl more ↦ inl more
                | inr most ↦
                    elim (cases_lt u.position at) [
                      | inl low ↦
                          absurd (not_there lock before added fresh held taken u is to
                          (inr (omega arith, low)))
                      | inr late ↦ inr (omega arith, late)
                    ]
              ]
        ]

    first_added : (lock : ℕ) (before new : List NumberedEdge) → AreAdded s k n at lock old before
        → All (IsFirstEdge set driver) before
        → IsAdded (holds_number s lock) (edge lock k n at) before new
        → All (IsFirstEdge set driver) new
    first_added lock before new added first (inl same) =
        subst (λ (xs : List NumberedEdge). All (IsFirstEdge set driver) xs) (sym same.0) first
    first_added lock before new added first (inr more) =
        subst (λ (xs : List NumberedEdge). All (IsFirstEdge set driver) xs) (sym more.2)
        (All-push (IsFirstEdge set driver) before (edge lock k n at) first
        (first_new lock before added more.1))

    pub adds_first : (count : ℕ) (new : List NumberedEdge) → AreAdded s k n at count old new
        → All (IsFirstEdge set driver) old → All (IsFirstEdge set driver) new
    adds_first zero new added first =
        subst (λ (xs : List NumberedEdge). All (IsFirstEdge set driver) xs) (sym added) first
    adds_first (suc lock) new added first =
        first_added lock added.0 new added.1 (adds_first lock added.0 added.1 first) added.2
