-- One step of the pass: what the table and the sums say afterwards.
use Rattle.std.proofs.Common.{◌≡◌, ℕ, suc, ◌+◌, ◌<◌, ◌≤◌, ◌⊎◌, inl, inr, true, List, length, Option, Some, Result, Ok, slice_index_or, slice_set, arith, sym, subst, ◌∙◌, ap}
use Rattle.std.specs.Prelude.{slice_get}
use Rattle.std.proofs.lemmas.Bool.{cases_lt, cases_eq}
use Rattle.std.proofs.lemmas.List.{get_or-set_same, get_or-set_other, length-set}
use Rattle.model.specs.declared.abs.Abs.{Abs}
use Rattle.model.specs.declared.abs.Outs.{Outs}
use Rattle.model.specs.declared.abs.Rule.{Rule}
use Rattle.model.specs.declared.instr.Instr.{Instr}
use Rattle.model.specs.declared.limits.TheConstants.{MAX_CERTIFICATE}
use Rattle.model.specs.Certificate.{certificate_to, turns_at}
use Rattle.model.specs.LocalRule.{local_rule, rule_or, outs, handed, handed_at_label}
use Rattle.model.specs.Paths.{HandsOn, LeadsFrom, Leads, Arrives}
use Rattle.model.specs.Set.{Member, flow_of, label_in, label_of}
use Rattle.model.specs.Typable.{IsFineAt}
use Rattle.verifier.specs.declared.loops.Place.{Place}
use Rattle.verifier.specs.declared.seen.Arrivals.{Arrivals}
use Rattle.verifier.specs.declared.seen.Arrivals.TheVariants.{Missing, Alone, Differing}
use Rattle.verifier.specs.declared.seen.Seen.{Seen}
use Rattle.verifier.specs.declared.seen.Seen.TheVariants.{Nothing, One}
use Rattle.verifier.specs.Pass.{FromBelow, Knows, AreSums, IsRight, IsPassed, opens, is_start}
use Rattle.verifier.specs.Table.{Describes, IsKept, IsArrived, seen_of}
use Rattle.verifier.proofs.Arrivals.{described_same, below_less, below_step, jump_up}
use Rattle.verifier.proofs.Closing.{seen_there, entry_of}
use Rattle.verifier.proofs.Handing.{With, kept_ahead, kept_below, kept_start, kept_long, arrived, not_arrived}
use Rattle.verifier.proofs.Judging.{fine_there}

-- what the instruction hands on is where it leads
abbrev outs_at : (m : Member) (at : ℕ) → IsPassed m at → Outs
outs_at m at h = outs m.set m.driver h.state h.instr

rule_there : (m : Member) (at : ℕ) (h : IsPassed m at)
    → local_rule h.state h.instr m.routine.sort m.set m.driver ≡ Ok (outs_at m at h)
rule_there m at h = ap (λ (broken : Option Rule). rule_or broken (outs_at m at h)) h.keeps

hands_of_leads : (m : Member) (at : ℕ) (h : IsPassed m at) (p : ℕ) (s : Abs)
    → Leads m at h.state p s
    → ((p ≡ at + 1) × ((outs_at m at h).next ≡ Some s))
    ⊎ ((label_of h.instr ≡ Some p) × ((outs_at m at h).jump ≡ Some s))
hands_of_leads m at h p s leads =
    let from : LeadsFrom m (Some h.instr) at h.state p s =
    subst (λ (x : Option Instr). LeadsFrom m x at h.state p s) h.here leads.1
    in
    subst (λ (x : Result Outs Rule). HandsOn x (label_of h.instr) at p s) (rule_there m at h) from

leads_of_hands : (m : Member) (at : ℕ) (h : IsPassed m at) (p : ℕ) (s : Abs)
    → ((p ≡ at + 1) × ((outs_at m at h).next ≡ Some s))
    ⊎ ((label_of h.instr ≡ Some p) × ((outs_at m at h).jump ≡ Some s)) → Leads m at h.state p s
leads_of_hands m at h p s on =
    let from : LeadsFrom m (Some h.instr) at h.state p s =
    subst (λ (x : Result Outs Rule). HandsOn x (label_of h.instr) at p s) (sym (rule_there m at h))
    on
    in
    (h.formed, subst (λ (x : Option Instr). LeadsFrom m x at h.state p s) (sym h.here) from)

-- what arrives from below, and what the instruction has added
abbrev Added : (m : Member) (at : ℕ) → IsPassed m at → ℕ → Abs → Type 0
Added m at h p = With (With (FromBelow m at p) (label_of h.instr) (outs_at m at h).jump p)
    (Some (at + 1)) (outs_at m at h).next p

added_below : (m : Member) (at : ℕ) (h : IsPassed m at) (p : ℕ) (s : Abs) → Added m at h p s
    → FromBelow m (at + 1) p s
added_below m at h p s (inl (inl below)) = below_step m at p h.state s h.arrival (inl below)
added_below m at h p s (inl (inr jump)) =
    below_step m at p h.state s h.arrival (inr (leads_of_hands m at h p s (inr jump)))
added_below m at h p s (inr next) =
    let there : Some (at + 1) ≡ Some p = next.0 in
    let same : at + 1 ≡ p = cc in
    below_step m at p h.state s h.arrival (inr (leads_of_hands m at h p s (inl (sym same, next.1))))

added_hands : (m : Member) (at : ℕ) (h : IsPassed m at) (p : ℕ) (s : Abs)
    → ((p ≡ at + 1) × ((outs_at m at h).next ≡ Some s))
    ⊎ ((label_of h.instr ≡ Some p) × ((outs_at m at h).jump ≡ Some s)) → Added m at h p s
added_hands m at h p s (inl next) = inr (ap Some (sym next.0), next.1)
added_hands m at h p s (inr jump) = inl (inr jump)

added_split : (m : Member) (at : ℕ) (h : IsPassed m at) (p : ℕ) (s : Abs) → FromBelow m at p s
    ⊎ Leads m at h.state p s → Added m at h p s
added_split m at h p s (inl below) = inl (inl below)
added_split m at h p s (inr leads) = added_hands m at h p s (hands_of_leads m at h p s leads)

below_added : (m : Member) (at : ℕ) (h : IsPassed m at) (p : ℕ) (s : Abs) → FromBelow m (at + 1) p s
    → Added m at h p s
below_added m at h p s below = added_split m at h p s (below_less m at p h.state s h.arrival below)

-- what is seen of a position so
seen_added : (m : Member) (at : ℕ) (h : IsPassed m at) (p : ℕ) (seen : Seen)
    → Describes seen (Added m at h p) → Describes seen (FromBelow m (at + 1) p)
seen_added m at h p seen was =
    described_same seen (Added m at h p) (FromBelow m (at + 1) p) (λ s. added_below m at h p s)
    (λ s. below_added m at h p s) was

-- a table after the instruction was passed
abbrev IsKeptAt : (m : Member) (at : ℕ) → IsPassed m at → List Seen → List Seen → Type 0
IsKeptAt m at h old new = IsKept (flow_of h.instr) at h.state (handed_at_label h.state h.instr) old
    new

jumps_up : (m : Member) (at : ℕ) (h : IsPassed m at) (label : ℕ)
    → label_in (flow_of h.instr) ≡ Some label → at < label
jumps_up m at h label leads = jump_up m.routine.code at label h.instr h.here h.formed leads

ahead_more : (m : Member) (at : ℕ) (h : IsPassed m at) (table new : List Seen) (p : ℕ)
    → IsKeptAt m at h table new → at < p → p < length table
    → Describes (slice_index_or table p Nothing) (FromBelow m at p)
    → Describes (slice_index_or new p Nothing)
    (With (FromBelow m at p) (label_of h.instr) (outs_at m at h).jump p)
ahead_more m at h table new p kept above within was =
    kept_ahead table new at p (flow_of h.instr) h.state (handed m.set m.driver h.state h.instr)
    (handed_at_label h.state h.instr) (FromBelow m at p) kept above within was

starts_more : (m : Member) (at : ℕ) (h : IsPassed m at) (table new : List Seen) (q : ℕ)
    → IsKeptAt m at h table new → at < length table
    → (q < at → Describes (slice_index_or table q Nothing) (Arrives m q))
    → is_start (slice_get m.routine.code q) ≡ true
    → q < at + 1 → (q < at) ⊎ (at ≤ q) → Describes (slice_index_or new q Nothing) (Arrives m q)
starts_more m at h table new q kept within was start low (inl lower) =
    subst (λ (seen : Seen). Describes seen (Arrives m q))
    (sym (kept_below table new at q (flow_of h.instr) h.state (handed_at_label h.state h.instr) kept
    (jumps_up m at h) lower))
    (was lower)
starts_more m at h table new q kept within was start low (inr least) =
    let same : at ≡ q = omega arith in
    let opening : opens (flow_of h.instr) ≡ true =
    sym (ap is_start h.here) ∙ subst (λ (p : ℕ). is_start (slice_get m.routine.code p) ≡ true)
    (sym same) start
    in
    let one : Describes (One h.state) (Arrives m at) = (h.arrival.arrives, h.arrival.alone) in
    let entry : slice_index_or new at Nothing ≡ One h.state =
    kept_start table new at (flow_of h.instr) h.state (handed_at_label h.state h.instr) kept within
    opening
    in
    let there : Describes (slice_index_or new at Nothing) (Arrives m at) =
    subst (λ (seen : Seen). Describes seen (Arrives m at)) (sym entry) one in
    subst (λ (p : ℕ). Describes (slice_index_or new p Nothing) (Arrives m p)) same there

fine_more : (m : Member) (at : ℕ) → ((p : ℕ) → p < at → IsFineAt m p) → IsFineAt m at
    → (p : ℕ) → p < at + 1 → (p < at) ⊎ (at ≤ p) → IsFineAt m p
fine_more m at below here p within (inl lower) = below p lower
fine_more m at below here p within (inr least) =
    let same : at ≡ p = omega arith in
    subst (λ (q : ℕ). IsFineAt m q) same here

knows_more : (m : Member) (at : ℕ) (h : IsPassed m at) (here new_here : Seen)
    (table new : List Seen) → Knows m at here table → IsFineAt m at
    → at < length m.routine.code → IsKeptAt m at h table new
    → IsArrived (flow_of h.instr) (handed m.set m.driver h.state h.instr)
    (slice_index_or new (at + 1) Nothing) new_here → Knows m (at + 1) new_here new
knows_more m at h here new_here table new known fine within kept next =
    let long : length table ≡ length m.routine.code + 1 = known.long in
    record {
      entry = known.entry;
      entered = known.entered;
      long = kept_long table new at (flow_of h.instr) h.state (handed_at_label h.state h.instr) kept
          ∙ known.long;
      fine = λ p low. fine_more m at known.fine fine p low (cases_lt p at);
      seen = λ inside. seen_added m at h (at + 1) new_here
          (arrived (slice_index_or new (at + 1) Nothing) new_here (at + 1) (flow_of h.instr)
          (handed m.set m.driver h.state h.instr) (handed_at_label h.state h.instr)
          (With (FromBelow m at (at + 1)) (label_of h.instr) (outs_at m at h).jump (at + 1)) next
          (ahead_more m at h table new (at + 1) kept (omega arith) (omega arith)
          (known.ahead (at + 1) (omega arith) inside)));
      ahead = λ p above inside. seen_added m at h p (slice_index_or new p Nothing)
          (not_arrived (slice_index_or new p Nothing) (at + 1) (outs_at m at h).next p
          (With (FromBelow m at p) (label_of h.instr) (outs_at m at h).jump p)
          (λ same. absurd (omega arith))
          (ahead_more m at h table new p kept (omega arith) (omega arith)
          (known.ahead p (omega arith) inside)));
      starts = λ q low start. starts_more m at h table new q kept (omega arith)
          (λ lower. known.starts q lower start) start low (cases_lt q at);
    }

-- one sum more
pub sum_next : (code read : List Instr) (sums : List ℕ) (at turns : ℕ) → AreSums code at sums
    → read ≡ code → turns ≡ turns_at read at
    → slice_index_or sums at 0 + turns ≡ certificate_to code (suc at)
sum_next code read sums at turns summed same told =
    let before : slice_index_or sums at 0 ≡ certificate_to code at = summed.each at (omega arith) in
    let more : turns ≡ turns_at code at = told ∙ ap (λ (list : List Instr). turns_at list at) same
    in
    let sum : slice_index_or sums at 0 + turns ≡ certificate_to code at + turns_at code at =
    omega arith in
    sum

sum_each : (code : List Instr) (sums : List ℕ) (at sum : ℕ) → AreSums code at sums
    → at < length code → sum ≡ certificate_to code (suc at)
    → (p : ℕ) → p ≤ at + 1 → (p ≡ at + 1) ⊎ (p ≡ at + 1 → ⊥)
    → slice_index_or (slice_set sums (at + 1) sum) p 0 ≡ certificate_to code p
sum_each code sums at sum summed within right p low (inl same) =
    let long : length sums ≡ length code + 1 = summed.long in
    let next : suc at ≡ p = omega arith in
    ap (λ (q : ℕ). slice_index_or (slice_set sums (at + 1) sum) q 0) same
    ∙ get_or-set_same sums (at + 1) sum 0 (omega arith)
    ∙ right
    ∙ ap (certificate_to code) next
sum_each code sums at sum summed within right p low (inr differs) =
    get_or-set_other sums (at + 1) p sum 0 differs ∙ summed.each p (omega arith)

sum_short : (code : List Instr) (sums : List ℕ) (at sum : ℕ) → AreSums code at sums
    → sum ≡ certificate_to code (suc at) → sum ≤ MAX_CERTIFICATE
    → (p : ℕ) → p ≤ at + 1 → (p ≡ at + 1) ⊎ (p ≡ at + 1 → ⊥)
    → certificate_to code p ≤ MAX_CERTIFICATE
sum_short code sums at sum summed right short p low (inl same) =
    let next : suc at ≡ p = omega arith in
    subst (λ (q : ℕ). certificate_to code q ≤ MAX_CERTIFICATE) next
    (subst (λ (n : ℕ). n ≤ MAX_CERTIFICATE) right short)
sum_short code sums at sum summed right short p low (inr differs) = summed.short p (omega arith)

pub sums_more : (code : List Instr) (sums : List ℕ) (at sum : ℕ) → AreSums code at sums
    → at < length code → sum ≡ certificate_to code (suc at)
    → sum ≤ MAX_CERTIFICATE → AreSums code (at + 1) (slice_set sums (at + 1) sum)
sums_more code sums at sum summed within right short = record {
  long = length-set sums (at + 1) sum ∙ summed.long;
  each = λ p low. sum_each code sums at sum summed within right p low (cases_eq p (at + 1));
  short = λ p low. sum_short code sums at sum summed right short p low (cases_eq p (at + 1));
}

-- the state that the pass keeps is the one that arrives
kept_alone : (arrivals : Arrivals) (s other : Abs) → seen_of arrivals s ≡ One other → s ≡ other
kept_alone Missing s other is = cc
kept_alone Alone s other is = cc
kept_alone Differing s other is = cc

-- one position more
pub right_more : (m : Member) (at : ℕ) (i : Instr) (arrivals new_arrivals : Arrivals) (s next : Abs)
    (places : List Place) (table new : List Seen)
    (sums : List ℕ) (sum : ℕ) → IsRight m at places (seen_of arrivals s) table sums
    → at < length m.routine.code → IsPassed m at
    → slice_get m.routine.code at ≡ Some i → IsKept (flow_of i) at s (handed_at_label s i) table new
    → IsArrived (flow_of i) (handed m.set m.driver s i) (slice_index_or new (at + 1) Nothing)
    (seen_of new_arrivals next)
    → sum ≡ certificate_to m.routine.code (suc at) → sum ≤ MAX_CERTIFICATE
    → IsRight m (at + 1) places (seen_of new_arrivals next) new (slice_set sums (at + 1) sum)
right_more m at i arrivals new_arrivals s next places table new sums sum right within passed here
    kept arrives told short =
    let there : slice_get m.routine.code at ≡ Some passed.instr = passed.here in
    let same : i ≡ passed.instr = cc in
    let alone : seen_of arrivals s ≡ One passed.state =
    entry_of m at (seen_of arrivals s) passed.state passed.arrival
    (seen_there m at (seen_of arrivals s) table right.known within)
    in
    let state : s ≡ passed.state = kept_alone arrivals s passed.state alone in
    record {
      placed = right.placed;
      known = knows_more m at passed (seen_of arrivals s) (seen_of new_arrivals next) table new
          right.known
          (fine_there m at passed (subst (λ (n : ℕ). n ≤ MAX_CERTIFICATE) told short))
          within
          (subst (λ (x : Abs). IsKept (flow_of passed.instr) at x (handed_at_label x passed.instr)
          table new) state
          (subst (λ (x : Instr). IsKept (flow_of x) at s (handed_at_label s x) table new) same
          kept))
          (subst (λ (x : Abs). IsArrived (flow_of passed.instr)
          (handed m.set m.driver x passed.instr) (slice_index_or new (at + 1) Nothing)
          (seen_of new_arrivals next)) state
          (subst (λ (x : Instr). IsArrived (flow_of x) (handed m.set m.driver s x)
          (slice_index_or new (at + 1) Nothing) (seen_of new_arrivals next)) same arrives));
      summed = sums_more m.routine.code sums at sum right.summed within told short;
    }
