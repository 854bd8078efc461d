-- Ways along edges: of which locks so many edges lead to one, and which edge is the first that can be.
use Rattle.std.proofs.Common.{◌≡◌, ◌≢◌, ◌<◌, ◌+◌, ◌∙◌, ◌++◌, ◌↔◌, ℕ, zero, suc, List, [], ◌∷◌, length, All, get_or, refl, sym, ap, subst, arith, inl, inr, ◌⊎◌, slice_set, slice_get, Bool, true, false, Some, get_or-set_same, get_or-set_other, length-set, replicate, Option, None, IfSome, is_some}
use Rattle.std.specs.Prelude.{IfOk, Result, Ok, Err}
use Rattle.laws_runs.proofs.Common.{cases_eq, get_or_from_slice_get, slice_get_within}
use Rattle.verifier_orders.specs.declared.ranking.NumberedEdge.{NumberedEdge}
use Rattle.verifier_orders.specs.Cycle.{AreBehind, AreFirst, AreOneBack, Approaches, HasWay, IsAmong, IsFirstOf, IsLeastCycle, LeadsBack, LeadsOn, OfNone, Returns}
use Rattle.verifier_orders.specs.Ranking.{AreWithin, IsWithin}

pub at_place : (P : NumberedEdge → Type 0) (edges : List NumberedEdge) (k : ℕ) (e : NumberedEdge)
    → All P edges → slice_get edges k ≡ Some e → P e
at_place P edges k e all there =
    subst P (get_or_from_slice_get edges k e e there)
    (all k e (slice_get_within edges k e there))

-- locks from which an edge leads to one of some
abbrev pub HasOn : List NumberedEdge → List Bool → ℕ → Type 0
HasOn edges ahead lock = (e : NumberedEdge) × IsAmong edges e × LeadsOn ahead lock e

pub none_on : (edges : List NumberedEdge) (ahead : List Bool) (lock : ℕ)
    → OfNone edges (LeadsOn ahead lock) → HasOn edges ahead lock → ⊥
none_on edges ahead lock none has =
    at_place (λ (e : NumberedEdge). LeadsOn ahead lock e → ⊥) edges has.1.0 has.0 none has.1.1 has.2

pub record AreBackTo (edges : List NumberedEdge) (ahead behind : List Bool) (lock : ℕ) : Type 0 where
  pub long : length behind ≡ 9
  pub each : (k : ℕ) → k < lock → (get_or behind k false ≡ true) ↔ HasOn edges ahead k

module _ (edges : List NumberedEdge) (ahead behind : List Bool) (lock : ℕ)
    (h : AreBackTo edges ahead behind lock) (low : lock < 9) (b : Bool)
    (is : (b ≡ true) ↔ HasOn edges ahead lock) where
  abbrev after : List Bool
  after = slice_set behind lock b

  here : get_or after lock false ≡ b
  here = get_or-set_same behind lock b false (omega (arith, h.long))

  each_by : (k : ℕ) → k < lock + 1 → (k ≡ lock) ⊎ (k ≢ lock)
      → (get_or after k false ≡ true) ↔ HasOn edges ahead k
  each_by k l (inl same) =
      rw same (
        λ at. is.0 (sym here ∙ at),
        λ has. here ∙ is.1 has,
      )
  each_by k l (inr apart) =
      let other : get_or after k false ≡ get_or behind k false =
      get_or-set_other behind lock k b false apart in
      let known : (get_or behind k false ≡ true) ↔ HasOn edges ahead k = h.each k (omega arith) in (
        λ at. known.0 (sym other ∙ at),
        λ has. other ∙ known.1 has,
      )

  pub back_more : AreBackTo edges ahead after (lock + 1)
  back_more =
      record {
        long = length-set behind lock b ∙ h.long;
        each = λ k l. each_by k l (cases_eq k lock);
      }

pub some_on : (edges : List NumberedEdge) (ahead : List Bool) (lock : ℕ)
    (o : Option NumberedEdge) → IfSome o (IsFirstOf edges (LeadsOn ahead lock))
    → (o ≡ None → OfNone edges (LeadsOn ahead lock))
    → (b : Bool) → b ≡ is_some o → (b ≡ true) ↔ HasOn edges ahead lock
some_on edges ahead lock (Some e) some none b is = (
  λ at. (e, (some.place, some.there), some.is),
  λ has. is,
)
some_on edges ahead lock None some none b is = (
  λ at. (let no : true ≡ false = sym at ∙ is in cc),
  λ has. absurd (none_on edges ahead lock (none refl) has),
)

-- locks from which so many lead to one
pub none_seen : (lock n : ℕ) → get_or (replicate n false) lock false ≡ false
none_seen lock zero = refl
none_seen zero (suc n) = refl
none_seen (suc lock) (suc n) = none_seen lock n

one_held : (locks : List Bool) (to : ℕ) → length locks ≡ 9 → to < 9
    → ((k : ℕ) → get_or locks k false ≡ false)
    → (k : ℕ) → (k ≡ to) ⊎ (k ≢ to)
    → (get_or (slice_set locks to true) k false ≡ true) ↔ (k ≡ to)
one_held locks to long low none k (inl same) = (
  λ at. same,
  λ is. rw same (get_or-set_same locks to true false (omega (arith, long))),
)
one_held locks to long low none k (inr apart) = (
  λ at.
      (let other : get_or (slice_set locks to true) k false ≡ get_or locks k false =
      get_or-set_other locks to k true false apart in
      let no : true ≡ false = sym at ∙ other ∙ none k in
      cc),
  λ is. absurd (apart is),
)

pub behind_begun : (edges : List NumberedEdge) (to : ℕ) → to < 9
    → AreBehind edges to 0 (slice_set (replicate 9 false) to true)
behind_begun edges to low = λ k l.
    one_held (replicate 9 false) to refl low (λ k. none_seen k 9) k (cases_eq k to)

edge_low : (edges : List NumberedEdge) (e : NumberedEdge) → AreWithin edges → IsAmong edges e
    → IsWithin e
edge_low edges e within among = at_place IsWithin edges among.0 e within among.1

behind_suc : (edges : List NumberedEdge) (to count : ℕ) (ahead behind : List Bool)
    → AreWithin edges → AreBehind edges to count ahead → AreOneBack edges ahead behind
    → AreBehind edges to (suc count) behind
behind_suc edges to count ahead behind within known back = λ lock low. (
  λ at.
      (let has : HasOn edges ahead lock = (back lock low).0 at in (
        has.0,
        has.1,
        has.2.0,
        (known has.0.taken (edge_low edges has.0 within has.1).1).0 has.2.1,
      )),
  λ way.
      (back lock low).1 (
        way.0,
        way.1,
        (
          way.2,
          (known way.0.taken (edge_low edges way.0 within way.1).1).1 way.3,
        ),
      ),
)

pub behind_more : (edges : List NumberedEdge) (to count : ℕ) (ahead behind : List Bool)
    → AreWithin edges → AreBehind edges to count ahead → AreOneBack edges ahead behind
    → AreBehind edges to (count + 1) behind
behind_more edges to count ahead behind within known back =
    let next : suc count ≡ count + 1 = omega arith in
    subst (λ (n : ℕ). AreBehind edges to n behind) next
    (behind_suc edges to count ahead behind within known back)

-- the first of some edges by what is the same of each
there_at : (edges : List NumberedEdge) (k : ℕ) (d : NumberedEdge) → k < length edges
    → slice_get edges k ≡ Some (get_or edges k d)
there_at [] k d low = absurd (omega arith)
there_at (e ∷ edges) zero d low = refl
there_at (e ∷ edges) (suc k) d low = there_at edges k d (omega arith)

pub first_same : (edges : List NumberedEdge) (P Q : NumberedEdge → Type 0) (e : NumberedEdge)
    → ((k : ℕ) (d : NumberedEdge) → slice_get edges k ≡ Some d → P d → Q d)
    → ((k : ℕ) (d : NumberedEdge) → slice_get edges k ≡ Some d → Q d → P d)
    → IsFirstOf edges P e → IsFirstOf edges Q e
first_same edges P Q e on back h =
    record {
      place = h.place;
      there = h.there;
      is = on h.place e h.there h.is;
      before = λ k d low is. h.before k d low
          (back k (get_or edges k d)
          (there_at edges k d
          (let within : h.place < length edges = slice_get_within edges h.place e h.there in
          omega arith)) is);
    }

-- an edge that leads on to locks from which so many more lead to one approaches that
pub approaches : (edges : List NumberedEdge) (to more lock : ℕ) (ahead : List Bool)
    (e : NumberedEdge) → AreWithin edges → AreBehind edges to more ahead
    → IsFirstOf edges (LeadsOn ahead lock) e → IsFirstOf edges (Approaches edges to more lock) e
approaches edges to more lock ahead e within known first =
    first_same edges (LeadsOn ahead lock) (Approaches edges to more lock) e
    (λ k d there is. (
      is.0,
      (known d.taken (edge_low edges d within (k, there)).1).0 is.1,
    ))
    (λ k d there is. (
      is.0,
      (known d.taken (edge_low edges d within (k, there)).1).1 is.1,
    ))
    first

-- where so many lead from a lock an edge leads on
pub on_there : (edges : List NumberedEdge) (to more lock : ℕ) (ahead : List Bool)
    → AreWithin edges → AreBehind edges to more ahead → HasWay edges lock to (more + 1)
    → HasOn edges ahead lock
on_there edges to more lock ahead within known way =
    let next : more + 1 ≡ suc more = omega arith in
    let on : HasWay edges lock to (suc more) =
    subst (λ (n : ℕ). HasWay edges lock to n) next way in
    (on.0, on.1, (on.2, (known on.0.taken (edge_low edges on.0 within on.1).1).1 on.3))

-- an edge more
length_more : (way : List NumberedEdge) (e : NumberedEdge) → length (way ++ e ∷ []) ≡ length way + 1
length_more [] e = refl
length_more (f ∷ way) e = omega (arith, length_more way e)

pub first_more : (edges : List NumberedEdge) (to left lock at : ℕ) (way : List NumberedEdge)
    (e : NumberedEdge) → AreFirst edges to (left + 1) lock way at
    → IsFirstOf edges (Approaches edges to left at) e
    → AreFirst edges to left lock (way ++ e ∷ []) e.taken
first_more edges to left lock at [] e known first =
    let none : left ≡ 0 + left = omega arith in (
      subst (λ (n : ℕ). IsFirstOf edges (Approaches edges to n lock) e) none
          (subst (λ (l : ℕ). IsFirstOf edges (Approaches edges to left l) e) (sym known) first),
      refl,
    )
first_more edges to left lock at (f ∷ way) e known first =
    let far : length way + (left + 1) ≡ length (way ++ e ∷ []) + left =
    omega (arith, length_more way e) in (
      subst (λ (n : ℕ). IsFirstOf edges (Approaches edges to n lock) f) far known.0,
      first_more edges to left f.taken at way e known.1 first,
    )

-- a cycle is begun, and goes on
pub record IsBegun (edges : List NumberedEdge) (first : NumberedEdge) (cycle : List NumberedEdge)
    (done left at : ℕ) : Type 0 where
  pub rest : List NumberedEdge
  pub parts : cycle ≡ first ∷ rest
  pub long : length rest ≡ done
  pub on : AreFirst edges first.held left first.taken rest at
  pub way : HasWay edges at first.held left
  pub low : at < 9

pub begun : (edges : List NumberedEdge) (first : NumberedEdge) (more : ℕ) → AreWithin edges
    → IsFirstOf edges (Returns edges more) first → IsBegun edges first (first ∷ []) 0 more first.taken
begun edges first more within is =
    record {
      rest = [];
      parts = refl;
      long = refl;
      on = refl;
      way = is.is;
      low = (edge_low edges first within (is.place, is.there)).1;
    }

pub goes_on : (edges : List NumberedEdge) (first : NumberedEdge) (cycle : List NumberedEdge)
    (done left at : ℕ) (e : NumberedEdge) → AreWithin edges
    → IsBegun edges first cycle done (left + 1) at
    → IsFirstOf edges (Approaches edges first.held left at) e
    → IsBegun edges first (cycle ++ e ∷ []) (done + 1) left e.taken
goes_on edges first cycle done left at e within h is =
    record {
      rest = h.rest ++ e ∷ [];
      parts = ap (λ (xs : List NumberedEdge). xs ++ e ∷ []) h.parts;
      long = omega (arith, length_more h.rest e, h.long);
      on = first_more edges first.held left first.taken at h.rest e h.on is;
      way = is.is.1;
      low = (edge_low edges e within (is.place, is.there)).1;
    }

pub done_back : (edges : List NumberedEdge) (first : NumberedEdge) (cycle : List NumberedEdge)
    (more at : ℕ) → IsBegun edges first cycle more 0 at → LeadsBack edges first more cycle
done_back edges first cycle more at h =
    record {
      rest = h.rest;
      parts = h.parts;
      long = h.long;
      on = subst (λ (l : ℕ). AreFirst edges first.held 0 first.taken h.rest l) h.way h.on;
    }

pub least : (edges : List NumberedEdge) (first : NumberedEdge) (more : ℕ)
    (cycle : List NumberedEdge) → IsFirstOf edges (Returns edges more) first
    → ((k : ℕ) → k < more → OfNone edges (Returns edges k)) → LeadsBack edges first more cycle
    → IsLeastCycle edges cycle
least edges first more cycle begins none h =
    record {
      first = first;
      rest = h.rest;
      parts = h.parts;
      begins = subst (λ (n : ℕ). IsFirstOf edges (Returns edges n) first) (sym h.long) begins;
      on = h.on;
      shortest = λ k low. none k (omega (arith, low, h.long));
    }

pub then_ok : {A E : Type 0} {P Q : A → Type 0} (r : Result A E) → IfOk r P
    → ((x : A) → P x → Q x) → IfOk r Q
then_ok (Ok x) h f = f x h
then_ok (Err e) h f = tt
