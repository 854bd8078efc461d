-- Locks are given places one after another, each when no edge leads to it from one without a place.
use Rattle.std.proofs.Common.{◌≡◌, ◌≢◌, ◌<◌, ◌≤◌, ◌+◌, ◌∙◌, ℕ, zero, suc, List, [], ◌∷◌, length, All, get_or, refl, sym, ap, arith, inl, inr, ◌⊎◌, nat_eq, slice_set, if◌then◌else◌, ne_eqb, get_or-set_same, get_or-set_other, length-set}
use Rattle.laws_runs.proofs.Common.{cases_eq, cases_lt}
use Rattle.verifier_orders.specs.declared.ranking.NumberedEdge.{NumberedEdge}
use Rattle.verifier_orders.specs.Ranking.{AreRanked, AreWithin, HasAt, HasNowhere, IsFree, IsNowhere}

-- how many have none
abbrev pub nowhere : List ℕ → ℕ
nowhere [] = 0
nowhere (p ∷ places) = (if nat_eq p 9 then 1 else 0) + nowhere places

-- so many turns have given so many places
pub record AreRankedTo (edges : List NumberedEdge) (places : List ℕ) (turn : ℕ) : Type 0 where
  pub long : length places ≡ 9
  pub low : (lock : ℕ) → lock < 9 → IsNowhere places lock ⊎ (get_or places lock 0 < turn)
  pub rises : All (λ (e : NumberedEdge). IsNowhere places e.taken
      ⊎ (get_or places e.held 0 < get_or places e.taken 0)) edges
  pub left : nowhere places + turn ≡ 9
  pub filled : (place : ℕ) → place < turn → place < 9 → HasAt places place
  pub once : (lock other : ℕ) → lock < 9 → other < 9 → get_or places lock 0 ≡ get_or places other 0
      → IsNowhere places lock ⊎ (lock ≡ other)

pub ranked_begun : (edges : List NumberedEdge) (places : List ℕ) → length places ≡ 9
    → nowhere places ≡ 9 → ((lock : ℕ) → lock < 9 → IsNowhere places lock) → AreWithin edges
    → AreRankedTo edges places 0
ranked_begun edges places long all each within =
    record {
      long = long;
      low = λ lock l. inl (each lock l);
      rises = λ k d l. inl (each (get_or edges k d).taken (within k d l).1);
      left = omega arith;
      filled = λ place l m. absurd (omega arith);
      once = λ lock other l m same. inl (each lock l);
    }

abbrev one_at : ℕ → ℕ
one_at p = if nat_eq p 9 then 1 else 0

nowhere_one : (p : ℕ) → p ≡ 9 → one_at p ≡ 1
nowhere_one p is = rw is refl

nowhere_none : (p : ℕ) → p ≢ 9 → one_at p ≡ 0
nowhere_none p apart = rw (ne_eqb p 9 apart) refl

nowhere_set : (places : List ℕ) (lock turn : ℕ) → lock < length places → IsNowhere places lock
    → turn ≢ 9 → nowhere (slice_set places lock turn) + 1 ≡ nowhere places
nowhere_set [] lock turn within at apart = absurd (omega arith)
nowhere_set (p ∷ places) zero turn within at apart =
    omega (arith, nowhere_one p at, nowhere_none turn apart)
nowhere_set (p ∷ places) (suc lock) turn within at apart =
    omega (arith, nowhere_set places lock turn (omega arith) at apart)

some_by : (p : ℕ) (places : List ℕ) → 1 ≤ nowhere (p ∷ places)
    → (p ≡ 9) ⊎ (1 ≤ nowhere places)
some_by p places some =
    elim (cases_eq p 9) [
      | inl same ↦ inl same
      | inr apart ↦ inr (omega (arith, nowhere_none p apart))
    ]

some_in : (p : ℕ) (places : List ℕ) → (p ≡ 9) ⊎ (1 ≤ nowhere places)
    → (1 ≤ nowhere places → (lock : ℕ) × (lock < length places) × IsNowhere places lock)
    → (lock : ℕ) × (lock < length (p ∷ places)) × IsNowhere (p ∷ places) lock
some_in p places (inl same) later = (zero, omega arith, same)
some_in p places (inr more) later =
    let rest : (lock : ℕ) × (lock < length places) × IsNowhere places lock = later more in
    (suc rest.0, (let l : rest.0 < length places = rest.1 in omega arith), rest.2)

some_nowhere : (places : List ℕ) → 1 ≤ nowhere places
    → (lock : ℕ) × (lock < length places) × IsNowhere places lock
some_nowhere [] some = absurd (omega arith)
some_nowhere (p ∷ places) some =
    some_in p places (some_by p places some) (λ more. some_nowhere places more)

none_nowhere : (places : List ℕ) (lock : ℕ) → IsNowhere places lock → 1 ≤ nowhere places
none_nowhere [] lock at = cc
none_nowhere (p ∷ places) zero at = omega (arith, nowhere_one p at)
none_nowhere (p ∷ places) (suc lock) at = omega (arith, none_nowhere places lock at)

beyond : (places : List ℕ) (lock : ℕ) → length places ≤ lock → get_or places lock 0 ≡ 0
beyond [] lock h = refl
beyond (p ∷ places) zero h = absurd (omega arith)
beyond (p ∷ places) (suc lock) h = beyond places lock (omega arith)

module _ (edges : List NumberedEdge) (places : List ℕ) (turn : ℕ) (h : AreRankedTo edges places turn)
  where
    pub ranked_left : turn < 9 → HasNowhere places
    ranked_left early =
        let some : (lock : ℕ) × (lock < length places) × IsNowhere places lock =
        some_nowhere places (omega (arith, h.left)) in
        (some.0, (let l : some.0 < length places = some.1 in omega (arith, h.long)), some.2)

    placed : 9 ≤ turn → (lock : ℕ) → IsNowhere places lock → ⊥
    placed late lock at = absurd (omega (arith, none_nowhere places lock at, h.left))

    few_by : 9 ≤ turn → turn ≤ 9 → (lock : ℕ)
        → IsNowhere places lock ⊎ (get_or places lock 0 < turn) → get_or places lock 0 < 9
    few_by late most lock (inl at) = absurd (placed late lock at)
    few_by late most lock (inr low) = omega arith

    rises_by : 9 ≤ turn → (e : NumberedEdge)
        → IsNowhere places e.taken ⊎ (get_or places e.held 0 < get_or places e.taken 0)
        → get_or places e.held 0 < get_or places e.taken 0
    rises_by late e (inl at) = absurd (placed late e.taken at)
    rises_by late e (inr low) = low

    once_by : 9 ≤ turn → (lock other : ℕ) → IsNowhere places lock ⊎ (lock ≡ other) → lock ≡ other
    once_by late lock other (inl at) = absurd (placed late lock at)
    once_by late lock other (inr same) = same

    pub ranked_all : 9 ≤ turn → turn ≤ 9 → AreRanked edges places
    ranked_all late most =
        record {
          few = λ lock. elim (cases_lt lock 9) [
            | inl within ↦ few_by late most lock (h.low lock within)
            | inr above ↦ omega (arith, beyond places lock (omega (arith, h.long)))
          ];
          filled = λ place l. h.filled place (omega arith) l;
          rises = λ k d within. rises_by late (get_or edges k d) (h.rises k d within);
          once = λ lock other l m same. once_by late lock other (h.once lock other l m same);
        }

    module _ (lock : ℕ) (early : turn < 9) (free : IsFree edges places lock) where
      abbrev after : List ℕ
      after = slice_set places lock turn

      here : get_or after lock 0 ≡ turn
      here = get_or-set_same places lock turn 0 (let l : lock < 9 = free.0 in omega (arith, h.long))

      other : (k : ℕ) → k ≢ lock → get_or after k 0 ≡ get_or places k 0
      other k apart = get_or-set_other places lock k turn 0 apart

      low_by : (k : ℕ) → IsNowhere places k ⊎ (get_or places k 0 < turn)
          → (k ≡ lock) ⊎ (k ≢ lock) → IsNowhere after k ⊎ (get_or after k 0 < turn + 1)
      low_by k known (inl same) = inr (rw same (omega (arith, here)))
      low_by k (inl at) (inr apart) = inl (other k apart ∙ at)
      low_by k (inr low) (inr apart) = inr (omega (arith, other k apart))

      -- an edge to the lock comes from one with a place
      into : (held taken : ℕ) → IsNowhere places held ⊎ (get_or places held 0 < turn)
          → (taken ≡ lock → IsNowhere places held → ⊥) → taken ≡ lock
          → get_or after held 0 < get_or after taken 0
      into held taken (inl at) never same = absurd (never same at)
      into held taken (inr low) never same =
          let apart : held ≢ lock = λ is. never same (ap (λ (k : ℕ). get_or places k 0) is ∙ free.1) in
          rw same (omega (arith, here, other held apart))

      -- and one to another lock from another
      past_edge : (held taken : ℕ)
          → IsNowhere places taken ⊎ (get_or places held 0 < get_or places taken 0)
          → taken ≢ lock → (get_or places taken 0 < turn) ⊎ IsNowhere places taken
          → IsNowhere after taken ⊎ (get_or after held 0 < get_or after taken 0)
      past_edge held taken (inl at) apart low = inl (other taken apart ∙ at)
      past_edge held taken (inr rise) apart (inr at) = inl (other taken apart ∙ at)
      past_edge held taken (inr rise) apart (inl low) =
          let free_at : get_or places lock 0 ≡ 9 = free.1 in
          let away : held ≢ lock = λ is.
          (let same : get_or places held 0 ≡ 9 = ap (λ (k : ℕ). get_or places k 0) is ∙ free_at in
          absurd (omega arith)) in
          inr (omega (arith, other taken apart, other held away))

      edge_after : (held taken : ℕ) → held < 9 → taken < 9
          → IsNowhere places taken ⊎ (get_or places held 0 < get_or places taken 0)
          → (taken ≡ lock → IsNowhere places held → ⊥)
          → (taken ≡ lock) ⊎ (taken ≢ lock)
          → IsNowhere after taken ⊎ (get_or after held 0 < get_or after taken 0)
      edge_after held taken low small known never (inl same) =
          inr (into held taken (h.low held low) never same)
      edge_after held taken low small known never (inr apart) =
          past_edge held taken known apart
          (elim (h.low taken small) [ inl at ↦ inr at | inr l ↦ inl l ])

      -- the places that were filled are, and the turn's is
      filled_before : (place : ℕ) → place < 9 → HasAt places place → HasAt after place
      filled_before place low has =
          let apart : has.0 ≢ lock = λ is.
          (let same : get_or places has.0 0 ≡ 9 = ap (λ (k : ℕ). get_or places k 0) is ∙ free.1 in
          let at : get_or places has.0 0 ≡ place = has.2 in
          absurd (omega arith)) in
          (has.0, has.1, other has.0 apart ∙ has.2)

      filled_by : (place : ℕ) → place < 9 → (place < turn) ⊎ (turn ≤ place) → place < turn + 1
          → HasAt after place
      filled_by place low (inl before) most = filled_before place low (h.filled place before low)
      filled_by place low (inr late) most =
          (lock, free.0, (let same : place ≡ turn = omega arith in here ∙ sym same))

      -- the turn's place is the lock's alone
      not_yet : (k : ℕ) → IsNowhere places k ⊎ (get_or places k 0 < turn)
          → get_or places k 0 ≡ turn → ⊥
      not_yet k (inl at) same = absurd (omega (arith, at))
      not_yet k (inr low) same = absurd (omega arith)

      once_after : (k j : ℕ) → k < 9 → j < 9 → get_or after k 0 ≡ get_or after j 0
          → (k ≡ lock) ⊎ (k ≢ lock) → (j ≡ lock) ⊎ (j ≢ lock) → IsNowhere after k ⊎ (k ≡ j)
      once_after k j l m same (inl one) (inl two) = inr (one ∙ sym two)
      once_after k j l m same (inl one) (inr apart) =
          let at : get_or after k 0 ≡ turn = ap (λ (n : ℕ). get_or after n 0) one ∙ here in
          absurd (not_yet j (h.low j m) (sym (other j apart) ∙ sym same ∙ at))
      once_after k j l m same (inr apart) (inl two) =
          let at : get_or after j 0 ≡ turn = ap (λ (n : ℕ). get_or after n 0) two ∙ here in
          absurd (not_yet k (h.low k l) (sym (other k apart) ∙ same ∙ at))
      once_after k j l m same (inr apart) (inr away) =
          elim (h.once k j l m (sym (other k apart) ∙ same ∙ other j away)) [
            | inl at ↦ inl (other k apart ∙ at)
            | inr is ↦ inr is
          ]

      pub ranked_more : AreWithin edges → AreRankedTo edges after (turn + 1)
      ranked_more within =
          record {
            long = length-set places lock turn ∙ h.long;
            low = λ k l. low_by k (h.low k l) (cases_eq k lock);
            rises = λ k d l.
                let e : NumberedEdge = get_or edges k d in
                edge_after e.held e.taken (within k d l).0 (within k d l).1 (h.rises k d l)
                (free.2 k d l) (cases_eq e.taken lock);
            filled = λ place l low. filled_by place low (cases_lt place turn) l;
            once = λ k j l m same.
                once_after k j l m same (cases_eq k lock) (cases_eq j lock);
            left = omega (
              arith,
              h.left,
              nowhere_set places lock turn (let l : lock < 9 = free.0 in omega (arith, h.long)) free.1
                  (λ is. absurd (omega arith)),
            );
          }
