-- Walking back from a step to the start.
use Rattle.std.proofs.Common.{length, slice_index_or, ◌≡◌, ◌∙◌, ℕ, suc, ◌<◌, List, [], ◌∷◌, ◌++◌, Option, None, Some, arith, sym, subst, ap}
use Rattle.std.specs.Prelude.{slice_get, reverse}
use Rattle.std.proofs.lemmas.Option.{slice_get-get_or, slice_get_within}
use Rattle.std.proofs.lemmas.List.{append_assoc, append-nil, reverse-reverse}
use Rattle.model.specs.Paths.{Leads}
use Rattle.model.specs.Set.{Member}
use Rattle.verifier_evidence.specs.declared.arrivals.Arrival.{Arrival}
use Rattle.verifier_evidence.specs.declared.trail.Step.{Step}
use Rattle.verifier_evidence.specs.Path.{IsTrail}
use Rattle.verifier_evidence.specs.Table.{ComesFrom, FollowsFrom, HasArrival, IsTraced}

-- the steps that were walked, the last one first, and where the earliest of them came from
pub record IsWalked (m : Member) (table : List (Option Arrival)) (last : Step) (steps : List Step)
    (from : Option ℕ) : Type 0 where
  pub here : Step
  pub comes : ComesFrom m table here.at here.state from
  pub joins : (earlier : List Step) → IsTrail m (here ∷ earlier)
      → IsTrail m (last ∷ (steps ++ earlier))

pub walked_start : (m : Member) (table : List (Option Arrival)) (last : Step) (from : Option ℕ)
    → ComesFrom m table last.at last.state from → IsWalked m table last [] from
walked_start m table last from comes = record {
  here = last;
  comes = comes;
  joins = λ earlier trail. trail;
}

abbrev pub step_at : ℕ → Arrival → Step
step_at q a = record { at = q; state = a.state }

same_arrival : (m : Member) (table : List (Option Arrival)) (q p : ℕ) (a : Arrival) (s : Step)
    → (follows : FollowsFrom m table q p s.state) → slice_get table q ≡ Some (Some a)
    → Leads m q a.state p s.state
same_arrival m table q p a s follows there =
    let was : slice_get table q ≡ Some (Some follows.before) = follows.there in
    let same : follows.before ≡ a = cc in
    subst (λ (b : Arrival). Leads m q b.state p s.state) same follows.leads

pub walked_more : (m : Member) (table : List (Option Arrival)) (last : Step) (steps : List Step)
    (q : ℕ) (a : Arrival) → IsTraced m table → IsWalked m table last steps (Some q)
    → slice_get table q ≡ Some (Some a)
    → IsWalked m table last (steps ++ (step_at q a ∷ [])) a.from
walked_more m table last steps q a traced walked there = record {
  here = step_at q a;
  comes = (traced q a there).comes;
  joins = λ earlier trail.
      subst (λ (list : List Step). IsTrail m (last ∷ list))
      (sym (append_assoc steps (step_at q a ∷ []) earlier))
      (walked.joins (step_at q a ∷ earlier)
      (trail, same_arrival m table q walked.here.at a walked.here walked.comes there));
}

walked_end : (m : Member) (table : List (Option Arrival)) (last : Step) (steps : List Step)
    → IsWalked m table last steps None → IsTrail m (last ∷ steps)
walked_end m table last steps walked =
    subst (λ (list : List Step). IsTrail m (last ∷ list)) (append-nil steps)
    (walked.joins [] walked.comes)

pub walked_path : (m : Member) (table : List (Option Arrival)) (last : Step) (steps : List Step)
    → IsWalked m table last steps None → IsTrail m (last ∷ reverse (reverse steps))
walked_path m table last steps walked =
    subst (λ (list : List Step). IsTrail m (last ∷ list)) (sym (reverse-reverse steps))
    (walked_end m table last steps walked)

-- how far it is to the start at most
abbrev pub left : Option ℕ → ℕ
left None = 0
left (Some q) = suc q

less_by : (m : Member) (table : List (Option Arrival)) (q : ℕ) (a : Arrival) (from : Option ℕ)
    → ComesFrom m table q a.state from → left from < suc q
less_by m table q a None comes = omega arith
less_by m table q a (Some r) comes = let low : r < q = comes.below in omega arith

pub left_less : (m : Member) (table : List (Option Arrival)) (q : ℕ) (a : Arrival)
    → IsTraced m table → slice_get table q ≡ Some (Some a) → left a.from < suc q
left_less m table q a traced there = less_by m table q a a.from (traced q a there).comes

-- where a walk goes on there is an arrival
there_at : (m : Member) (table : List (Option Arrival)) (last : Step) (steps : List Step)
    (from : Option ℕ) (q : ℕ) → from ≡ Some q → IsWalked m table last steps from
    → HasArrival table q
there_at m table last steps None q is walked = cc
there_at m table last steps (Some r) q is walked =
    let same : r ≡ q = cc in
    subst (λ (x : ℕ). HasArrival table x) same (walked.comes.before, walked.comes.there)

pub walked_from : (m : Member) (table : List (Option Arrival)) (last : Step) (steps : List Step)
    (from : Option ℕ) (q : ℕ) → from ≡ Some q → IsWalked m table last steps from
    → q < length table
walked_from m table last steps from q is walked =
    let has : HasArrival table q = there_at m table last steps from q is walked in
    slice_get_within table q (Some has.0) has.1

pub read_at : (table : List (Option Arrival)) (q : ℕ) (read : Option Arrival) → q < length table
    → read ≡ slice_index_or table q read → slice_get table q ≡ Some read
read_at table q read within is =
    slice_get-get_or table q read within ∙ ap (λ (r : Option Arrival). Some r) (sym is)

pub noted_at : (m : Member) (table : List (Option Arrival)) (last : Step) (steps : List Step)
    (from : Option ℕ) (q : ℕ) (read : Option Arrival) (a : Arrival) → from ≡ Some q
    → IsWalked m table last steps from → read ≡ slice_index_or table q read → read ≡ Some a
    → slice_get table q ≡ Some (Some a)
noted_at m table last steps from q read a is walked reads some =
    read_at table q read (walked_from m table last steps from q is walked) reads
    ∙ ap (λ (r : Option Arrival). Some r) some

pub never_blank : (m : Member) (table : List (Option Arrival)) (last : Step) (steps : List Step)
    (from : Option ℕ) (q : ℕ) (read : Option Arrival) → from ≡ Some q
    → IsWalked m table last steps from → read ≡ slice_index_or table q read → read ≡ None → ⊥
never_blank m table last steps from q read is walked reads none =
    let has : HasArrival table q = there_at m table last steps from q is walked in
    let blank : slice_get table q ≡ Some None =
    read_at table q read (walked_from m table last steps from q is walked) reads
    ∙ ap (λ (r : Option Arrival). Some r) none in
    let there : slice_get table q ≡ Some (Some has.0) = has.1 in
    cc
