-- Where to each lock without a place an edge leads from another such, a way back along such edges
-- comes to a lock that it has taken, as there are only nine: so there is a cycle of at most nine.
use Rattle.std.proofs.Common.{◌≡◌, ◌≢◌, ◌<◌, ◌≤◌, ◌+◌, ◌∙◌, ℕ, zero, suc, List, [], ◌∷◌, length, All, get_or, refl, sym, ap, subst, arith, inl, inr, ◌⊎◌, slice_set, slice_get, if◌then◌else◌, Bool, true, false, Some, get_or-set_other, length-set, replicate}
use Rattle.laws_runs.proofs.Common.{cases_eq}
use Rattle.verifier_orders.specs.declared.ranking.NumberedEdge.{NumberedEdge}
use Rattle.verifier_orders.specs.Cycle.{HasWay, IsAmong, LeadFrom, OfNone, Returns}
use Rattle.verifier_orders.specs.Ranking.{AreWithin, HasNowhere, IsNowhere, IsOpen, IsStuck, IsWithin}
use Rattle.verifier_orders.proofs.Ways.{at_place, none_seen}

-- an edge from a lock without a place to a lock
abbrev Into : List NumberedEdge → List ℕ → ℕ → Type 0
Into edges places lock =
    (k : ℕ) × (e : NumberedEdge) × (slice_get edges k ≡ Some e) × (e.taken ≡ lock)
    × IsNowhere places e.held

open_more : (e : NumberedEdge) (edges : List NumberedEdge) (places : List ℕ) (lock : ℕ)
    → (e.taken ≡ lock → IsNowhere places e.held → ⊥) → IsOpen edges places lock
    → IsOpen (e ∷ edges) places lock
open_more e edges places lock apart rest zero d l = apart
open_more e edges places lock apart rest (suc k) d l = rest k d (omega arith)

into_by : (e : NumberedEdge) (edges : List NumberedEdge) (places : List ℕ) (lock : ℕ)
    → (e.taken ≡ lock) ⊎ (e.taken ≢ lock)
    → (get_or places e.held 0 ≡ 9) ⊎ (get_or places e.held 0 ≢ 9)
    → ((e.taken ≡ lock → IsNowhere places e.held → ⊥) → Into edges places lock)
    → Into (e ∷ edges) places lock
into_by e edges places lock (inl takes) (inl nowhere) rest = (zero, e, refl, takes, nowhere)
into_by e edges places lock (inl takes) (inr apart) rest =
    (let there : Into edges places lock = rest (λ t h. apart h) in
    (suc there.0, there.1, there.2, there.3, there.4))
into_by e edges places lock (inr apart) nowhere rest =
    (let there : Into edges places lock = rest (λ t h. apart t) in
    (suc there.0, there.1, there.2, there.3, there.4))

not_open : (edges : List NumberedEdge) (places : List ℕ) (lock : ℕ)
    → (IsOpen edges places lock → ⊥) → Into edges places lock
not_open [] places lock never = absurd (never (λ k d l. absurd (omega arith)))
not_open (e ∷ edges) places lock never =
    into_by e edges places lock (cases_eq e.taken lock) (cases_eq (get_or places e.held 0) 9)
    (λ apart. not_open edges places lock
    (λ rest. never (open_more e edges places lock apart rest)))

-- how many locks weren't seen
abbrev unseen : List Bool → ℕ
unseen [] = 0
unseen (b ∷ seen) = (if b then 0 else 1) + unseen seen

unseen_set : (seen : List Bool) (lock : ℕ) → lock < length seen
    → get_or seen lock false ≡ false → unseen (slice_set seen lock true) + 1 ≡ unseen seen
unseen_set [] lock within at = absurd (omega arith)
unseen_set (b ∷ seen) zero within at = rw at (omega arith)
unseen_set (b ∷ seen) (suc lock) within at = omega (arith, unseen_set seen lock (omega arith) at)

-- an edge of a way takes a lock
abbrev HasTaken : List NumberedEdge → ℕ → Type 0
HasTaken way lock = (k : ℕ) × (e : NumberedEdge) × (slice_get way k ≡ Some e) × (e.taken ≡ lock)

record IsWalked (edges : List NumberedEdge) (places : List ℕ) (way : List NumberedEdge)
    (seen : List Bool) (at : ℕ) : Type 0 where
  last : ℕ
  lead : LeadFrom at way last
  low : at < 9
  nowhere : IsNowhere places at
  among : All (IsAmong edges) way
  long : length seen ≡ 9
  told : (lock : ℕ) → lock < 9 → get_or seen lock false ≡ true → HasTaken way lock
  left : length way + unseen seen ≡ 9

-- a cycle of at most nine edges
abbrev pub HasCycle : List NumberedEdge → Type 0
HasCycle edges = (more : ℕ) × (e : NumberedEdge) × (more < 9) × IsAmong edges e × Returns edges more e

-- from where a way begins so many edges lead to where one of its edges does
cut_way : (edges : List NumberedEdge) (from to k : ℕ) (way : List NumberedEdge) (g : NumberedEdge)
    → LeadFrom from way to → All (IsAmong edges) way → slice_get way k ≡ Some g
    → HasWay edges from g.taken (suc k)
cut_way edges from to k [] g lead among there = cc
cut_way edges from to zero (e ∷ way) g lead among there =
    let same : e ≡ g = cc in
    (e, among zero e (omega arith), lead.0, ap (λ (x : NumberedEdge). x.taken) same)
cut_way edges from to (suc k) (e ∷ way) g lead among there = (
  e,
  among zero e (omega arith),
  lead.0,
  cut_way edges e.taken to k way g lead.1 (λ j d l. among (suc j) d (omega arith)) there,
)

within_way : (way : List NumberedEdge) (k : ℕ) (g : NumberedEdge) → slice_get way k ≡ Some g
    → k < length way
within_way [] k g there = cc
within_way (e ∷ way) zero g there = omega arith
within_way (e ∷ way) (suc k) g there = omega (arith, within_way way k g there)

module _ (edges : List NumberedEdge) (places : List ℕ) where
  round : (way : List NumberedEdge) (seen : List Bool) (at : ℕ) → IsWalked edges places way seen at
      → HasTaken way at → HasCycle edges
  round way seen at h has =
      let back : HasWay edges at has.1.taken (suc has.0) =
      cut_way edges at h.last has.0 way has.1 h.lead h.among has.2 in
      let on : HasWay edges back.0.taken has.1.taken has.0 = back.3 in
      let low : has.0 < length way = within_way way has.0 has.1 has.2 in (
        has.0,
        back.0,
        omega (arith, low, h.left),
        back.1,
        subst (λ (l : ℕ). HasWay edges back.0.taken l has.0) (has.3 ∙ sym back.2) on,
      )

  module _ (way : List NumberedEdge) (seen : List Bool) (at : ℕ)
      (h : IsWalked edges places way seen at) (within : AreWithin edges)
      (new : get_or seen at false ≡ false) (k : ℕ) (e : NumberedEdge)
      (there : slice_get edges k ≡ Some e) (takes : e.taken ≡ at)
      (from : IsNowhere places e.held) where
    abbrev marked : List Bool
    marked = slice_set seen at true

    told_by : (lock : ℕ) → lock < 9 → get_or marked lock false ≡ true
        → (lock ≡ at) ⊎ (lock ≢ at) → HasTaken (e ∷ way) lock
    told_by lock l is (inl same) = (zero, e, refl, takes ∙ sym same)
    told_by lock l is (inr apart) =
        let has : HasTaken way lock =
        h.told lock l (sym (get_or-set_other seen at lock true false apart) ∙ is) in
        (suc has.0, has.1, has.2, has.3)

    among_more : All (IsAmong edges) (e ∷ way)
    among_more zero d l = (k, there)
    among_more (suc j) d l = h.among j d (omega arith)

    walked_more : IsWalked edges places (e ∷ way) marked e.held
    walked_more =
        record {
          last = h.last;
          lead = (refl, subst (λ (l : ℕ). LeadFrom l way h.last) (sym takes) h.lead);
          low = (at_place IsWithin edges k e within there).0;
          nowhere = from;
          among = among_more;
          long = length-set seen at true ∙ h.long;
          told = λ lock l is. told_by lock l is (cases_eq lock at);
          left = omega (
            arith,
            h.left,
            unseen_set seen at (let l : at < 9 = h.low in omega (arith, h.long)) new,
          );
        }

  walk : (fuel : ℕ) (way : List NumberedEdge) (seen : List Bool) (at : ℕ)
      → IsWalked edges places way seen at → AreWithin edges → IsStuck edges places
      → unseen seen ≤ fuel → (b : Bool) → get_or seen at false ≡ b → HasCycle edges
  walk fuel way seen at h within stuck few true is = round way seen at h (h.told at h.low is)
  walk zero way seen at h within stuck few false is =
      let less : unseen (slice_set seen at true) + 1 ≡ unseen seen =
      unseen_set seen at (let l : at < 9 = h.low in omega (arith, h.long)) is in
      absurd (omega (arith, few, less))
  walk (suc fuel) way seen at h within stuck few false is =
      let into : Into edges places at = not_open edges places at (stuck at h.low h.nowhere) in
      let less : unseen (slice_set seen at true) + 1 ≡ unseen seen =
      unseen_set seen at (let l : at < 9 = h.low in omega (arith, h.long)) is in
      walk fuel (into.1 ∷ way) (slice_set seen at true) into.1.held
      (walked_more way seen at h within is into.0 into.1 into.2 into.3 into.4) within stuck
      (omega (arith, few, less))
      (get_or (slice_set seen at true) into.1.held false) refl

pub has_cycle : (edges : List NumberedEdge) (places : List ℕ) → AreWithin edges
    → IsStuck edges places → HasNowhere places → HasCycle edges
has_cycle edges places within stuck some =
    let seen : List Bool = replicate 9 false in
    walk edges places 9 [] seen some.0
    (record {
      last = some.0;
      lead = refl;
      low = some.1;
      nowhere = some.2;
      among = λ k d l. absurd (omega arith);
      long = refl;
      told = λ lock l is. (let no : true ≡ false = sym is ∙ none_seen lock 9 in cc);
      left = refl;
    })
    within stuck (omega arith) (get_or seen some.0 false) refl

-- so none of fewer than nine more edges can be all
pub some_cycle : (edges : List NumberedEdge) (places : List ℕ) (most : ℕ) → AreWithin edges
    → IsStuck edges places → HasNowhere places → 9 ≤ most
    → ((k : ℕ) → k < most → OfNone edges (Returns edges k)) → ⊥
some_cycle edges places most within stuck some late none =
    let has : HasCycle edges = has_cycle edges places within stuck some in
    at_place (λ (e : NumberedEdge). Returns edges has.0 e → ⊥) edges has.3.0 has.1
    (none has.0 (omega (arith, late, has.2))) has.3.1 has.4
