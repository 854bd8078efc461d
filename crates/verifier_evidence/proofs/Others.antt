-- Other states than one that are handed on to a place.
use Rattle.std.proofs.Common.{◌≡◌, ◌∙◌, ℕ, ◌<◌, ◌≤◌, ◌+◌, ◌⊎◌, inl, inr, List, length, Option, Some, Result, slice_index_or, arith, sym, subst, ap}
use Rattle.std.specs.Prelude.{slice_get}
use Rattle.std.proofs.lemmas.Bool.{cases_lt}
use Rattle.std.proofs.lemmas.Option.{slice_get-get_or}
use Rattle.model.specs.declared.abs.Abs.{Abs}
use Rattle.model.specs.declared.abs.Outs.{Outs}
use Rattle.model.specs.declared.abs.Rule.{Rule}
use Rattle.model.specs.declared.instr.Instr.{Instr}
use Rattle.model.specs.LocalRule.{entry_state, local_rule}
use Rattle.model.specs.Paths.{Arrives, HandsOn, Leads}
use Rattle.model.specs.Set.{Member, label_of}
use Rattle.model.specs.Typable.{EndsUnlike, HasSeveral}
use Rattle.verifier.specs.Pass.{FromBelow, IsHandedOn}
use Rattle.verifier_evidence.specs.declared.arrivals.Arrival.{Arrival}
use Rattle.verifier_evidence.specs.Table.{AreFine, AreKnown, HasArrival, Hands}
use Rattle.verifier_evidence.proofs.Known.{below_of_arrives, known_covered, noted_alone}
use Rattle.verifier_evidence.proofs.Passing.{hands_by}
use Rattle.verifier_evidence.proofs.Walked.{read_at}

-- what is handed on from a position is what its instruction hands on from the arrival there
pub handed_none : (m : Member) (table : List (Option Arrival)) (from at : ℕ)
    (read : Option Arrival) (a : Arrival) (code : List Instr) (i : Instr) (label : Option ℕ)
    (given told : Result Outs Rule) (state : Abs) → from < length m.routine.code
    → length table ≡ length m.routine.code → read ≡ slice_index_or table from read
    → read ≡ Some a → code ≡ m.routine.code → i ≡ slice_index_or code from i
    → told ≡ local_rule a.state i m.routine.sort m.set m.driver → told ≡ given
    → label ≡ label_of i → ((s : Abs) → HandsOn given label from at s → s ≡ state)
    → (s : Abs) → Hands m table from at s → s ≡ state
handed_none m table from at read a code i label given told state within long reads some same_code
    here rule is labelled none s h =
    let there : slice_get table from ≡ Some (Some a) =
    read_at table from read (omega arith) reads ∙ ap (λ (r : Option Arrival). Some r) some in
    let was : slice_get table from ≡ Some (Some h.before) = h.there in
    let same : h.before ≡ a = cc in
    let found : i ≡ slice_index_or m.routine.code from i =
    here ∙ ap (λ (list : List Instr). slice_index_or list from i) same_code in
    let instr : slice_get m.routine.code from ≡ Some i =
    slice_get-get_or m.routine.code from i within ∙ ap (λ (x : Instr). Some x) (sym found) in
    let leads : Leads m from a.state at s =
    subst (λ (b : Arrival). Leads m from b.state at s) same h.leads in
    none s (subst (λ (l : Option ℕ). HandsOn given l from at s) (sym labelled)
    (hands_by m from i a.state given at s instr (sym rule ∙ is) leads))

-- no position below another one hands on another state
abbrev pub NoOther : Member → List (Option Arrival) → ℕ → Abs → ℕ → Type 0
NoOther m table at state bound =
    (q : ℕ) (s : Abs) → q < bound → Hands m table q at s → s ≡ state

others_split : (m : Member) (table : List (Option Arrival)) (at : ℕ) (state : Abs) (from : ℕ)
    → NoOther m table at state from → ((s : Abs) → Hands m table from at s → s ≡ state)
    → (q : ℕ) (s : Abs) → q < from + 1 → Hands m table q at s → (q < from) ⊎ (from ≤ q)
    → s ≡ state
others_split m table at state from below here q s low h (inl less) = below q s less h
others_split m table at state from below here q s low h (inr least) =
    let same : q ≡ from = omega arith in
    here s (subst (λ (p : ℕ). Hands m table p at s) same h)

pub others_more : (m : Member) (table : List (Option Arrival)) (at : ℕ) (state : Abs) (from : ℕ)
    → NoOther m table at state from → ((s : Abs) → Hands m table from at s → s ≡ state)
    → NoOther m table at state (from + 1)
others_more m table at state from below here = λ q s low h.
    others_split m table at state from below here q s low h (cases_lt q from)

-- where no other state is handed on, none arrives
handed_alone : (m : Member) (at : ℕ) (table : List (Option Arrival)) (state : Abs)
    → AreKnown m at table → AreFine m at → at < length m.routine.code
    → NoOther m table at state at → (s : Abs) → IsHandedOn m at at s → s ≡ state
handed_alone m at table state known fine within none s h =
    let low : h.from < at = h.below in
    let has : HasArrival table h.from =
    known_covered m at h.from table known (omega arith) (omega arith) h.before h.arrives in
    let same : h.before ≡ has.0.state =
    noted_alone m h.from has.0 h.before (fine h.from low) (known.traced h.from has.0 has.1).arrives
    h.arrives in
    none h.from s low (record {
      before = has.0;
      there = has.1;
      leads = subst (λ (b : Abs). Leads m h.from b at s) same h.leads;
    })

below_alone : (m : Member) (at : ℕ) (table : List (Option Arrival)) (state : Abs)
    → AreKnown m at table → AreFine m at → at < length m.routine.code
    → NoOther m table at state at → FromBelow m at at state → (s : Abs) → FromBelow m at at s
    → s ≡ state
below_alone m at table state known fine within none first s (inr h) =
    handed_alone m at table state known fine within none s h
below_alone m at table state known fine within none (inl first) s (inl h) =
    let is : entry_state m ≡ Some state = first.1 in
    let also : entry_state m ≡ Some s = h.1 in
    cc
below_alone m at table state known fine within none (inr first) s (inl h) =
    let low : first.from < at = first.below in
    let start : at ≡ 0 = h.0 in
    absurd (omega arith)

pub arrives_alone : (m : Member) (at : ℕ) (table : List (Option Arrival)) (state : Abs)
    → AreKnown m at table → AreFine m at → at < length m.routine.code
    → NoOther m table at state at → Arrives m at state → (s : Abs) → Arrives m at s → s ≡ state
arrives_alone m at table state known fine within none arrives s also =
    below_alone m at table state known fine within none (below_of_arrives m at state arrives) s
    (below_of_arrives m at s also)

-- so states that differ arrive at a loop's end and its start
pub ends_unlike : (m : Member) (at : ℕ) (table : List (Option Arrival)) (state : Abs)
    → AreKnown m at table → AreFine m at → at < length m.routine.code
    → NoOther m table at state at → Arrives m at state → HasSeveral m at ⊎ EndsUnlike m at
    → EndsUnlike m at
ends_unlike m at table state known fine within none arrives (inl h) =
    let one : h.one ≡ state =
    arrives_alone m at table state known fine within none arrives h.one h.one_arrives in
    let other : h.other ≡ state =
    arrives_alone m at table state known fine within none arrives h.other h.other_arrives in
    absurd (h.differ (one ∙ sym other))
ends_unlike m at table state known fine within none arrives (inr h) = h
