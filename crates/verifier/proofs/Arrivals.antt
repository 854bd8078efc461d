-- What arrives at a position comes from a position below it, so a forward pass sees all of it.
use Rattle.std.proofs.Common.{◌≡◌, ℕ, ◌+◌, ◌<◌, ◌≤◌, ◌⊎◌, inl, inr, true, false, Bool, List, [], ◌∷◌, length, Option, None, Some, Result, Ok, Err, nat_eq, nat_lt, refl, arith, subst, sym, ap, ◌∙◌}
use Rattle.std.specs.Prelude.{slice_get, ◌&&◌, ◌||◌, not}
use Rattle.std.proofs.lemmas.Bool.{cases_lt, ltb-true}
use Rattle.model.specs.declared.abs.Abs.{Abs}
use Rattle.model.specs.declared.abs.Outs.{Outs}
use Rattle.model.specs.declared.abs.Rule.{Rule}
use Rattle.model.specs.declared.instr.Instr.{Instr}
use Rattle.model.specs.LocalRule.{local_rule}
use Rattle.model.specs.Loops.{loops_round}
use Rattle.model.specs.Paths.{HandsOn, LeadsFrom, Leads, Along, Arrives, is_malformed, is_misplaced_by, is_misplaced, isnt_return, goes_forward, are_same_positions}
use Rattle.model.specs.Set.{Member, Flow, Onward, Branches, Jumps, Opens, Closes, Leaves, flow_of, label_in, label_of}
use Rattle.model.specs.Typable.{ArrivesAlone}
use Rattle.verifier.specs.declared.seen.Seen.{Seen}
use Rattle.verifier.specs.declared.seen.Seen.TheVariants.{Nothing, One, Several}
use Rattle.verifier.specs.Pass.{IsHandedOn, FromBelow}
use Rattle.verifier.specs.Table.{Describes}

-- a jump that can stand where it does goes forward
third_of_or : (first second third : Bool) → (first || (second || third)) ≡ false → third ≡ false
third_of_or true second third none = cc
third_of_or false true third none = cc
third_of_or false false third none = none

first_of_and : (first second : Bool) → (first && second) ≡ true → first ≡ true
first_of_and true second both = refl
first_of_and false second both = cc

of_not : (b : Bool) → not b ≡ false → b ≡ true
of_not true h = refl
of_not false h = cc

placed_jump : (code : List Instr) (q p : ℕ) (f : Flow) → label_in f ≡ Some p
    → is_misplaced_by code q f ≡ false → goes_forward code q p ≡ true
placed_jump code q p Onward leads formed = cc
placed_jump code q p (Branches label) leads formed =
    let same : label ≡ p =
    cc in subst (λ (l : ℕ). goes_forward code q l ≡ true) same
    (of_not (goes_forward code q label) formed)
placed_jump code q p (Jumps label) leads formed =
    let same : label ≡ p =
    cc in subst (λ (l : ℕ). goes_forward code q l ≡ true) same
    (of_not (goes_forward code q label) formed)
placed_jump code q p (Opens turns) leads formed = cc
placed_jump code q p Closes leads formed = cc
placed_jump code q p Leaves leads formed = cc

pub formed_place : (code : List Instr) (q : ℕ) → is_malformed code q ≡ false
    → is_misplaced code q (slice_get code q) ≡ false
formed_place code q formed =
    third_of_or (nat_eq (length code) 0)
    (nat_eq (q + 1) (length code) && isnt_return (slice_get code q))
    (is_misplaced code q (slice_get code q)) formed

pub jump_up : (code : List Instr) (q p : ℕ) (i : Instr) → slice_get code q ≡ Some i
    → is_malformed code q ≡ false → label_of i ≡ Some p → q < p
jump_up code q p i here formed leads =
    let placed : is_misplaced code q (Some i) ≡ false = ap (is_misplaced code q) (sym here)
    ∙ formed_place code q formed in
    ltb-true q p (first_of_and (nat_lt q p)
    (nat_lt p (length code) && are_same_positions (loops_round code q) (loops_round code p))
    (placed_jump code q p (flow_of i) leads placed))

-- an instruction leads to a position above it alone
hands_up : (code : List Instr) (q p : ℕ) (i : Instr) (handed : Result Outs Rule) (s : Abs)
    → slice_get code q ≡ Some i → is_malformed code q ≡ false
    → HandsOn handed (label_of i) q p s → q < p
hands_up code q p i (Err rule) s here formed h = absurd h
hands_up code q p i (Ok outs) s here formed (inl h) = let next : p ≡ q + 1 = h.0 in omega arith
hands_up code q p i (Ok outs) s here formed (inr h) = jump_up code q p i here formed h.0

leads_from_up : (m : Member) (q : ℕ) (before : Abs) (p : ℕ) (i : Option Instr) (s : Abs)
    → slice_get m.routine.code q ≡ i
    → is_malformed m.routine.code q ≡ false → LeadsFrom m i q before p s → q < p
leads_from_up m q before p None s here formed h = absurd h
leads_from_up m q before p (Some i) s here formed h =
    hands_up m.routine.code q p i (local_rule before i m.routine.sort m.set m.driver) s here formed
    h

pub leads_up : (m : Member) (q : ℕ) (before : Abs) (p : ℕ) (s : Abs) → Leads m q before p s → q < p
leads_up m q before p s h = leads_from_up m q before p (slice_get m.routine.code q) s refl h.0 h.1

-- a state arrives at a position exactly if it is handed on from below it
below_along : (m : Member) (p : ℕ) (s : Abs) (path : List ℕ) → Along m (p ∷ path) s
    → FromBelow m p p s
below_along m p s [] h = inl h
below_along m p s (q ∷ path) h =
    inr (record {
      from = q;
      below = leads_up m q h.0 p s h.2;
      before = h.0;
      arrives =
          (path, h.1);
      leads = h.2;
    })

below_of_arrives : (m : Member) (p : ℕ) (s : Abs) → Arrives m p s → FromBelow m p p s
below_of_arrives m p s h = below_along m p s h.0 h.1

arrives_of_below : (m : Member) (bound p : ℕ) (s : Abs) → FromBelow m bound p s → Arrives m p s
arrives_of_below m bound p s (inl h) = ([], h)
arrives_of_below m bound p s (inr h) = (h.from ∷ h.arrives.0, (h.before, h.arrives.1, h.leads))

-- a higher bound loses nothing
below_more : (m : Member) (low high p : ℕ) (s : Abs) → low ≤ high → FromBelow m low p s
    → FromBelow m high p s
below_more m low high p s least (inl h) = inl h
below_more m low high p s least (inr h) =
    inr (record {
      from = h.from;
      below = (let lower : h.from < low = h.below in omega arith);
      before = h.before;
      arrives = h.arrives;
      leads = h.leads;
    })

-- a table's entry describes every family with the same states
pub described_same : (seen : Seen) (P Q : Abs → Type 0) → ((s : Abs) → P s → Q s)
    → ((s : Abs) → Q s → P s) → Describes seen P → Describes seen Q
described_same Nothing P Q to back h = λ s q. h s (back s q)
described_same (One s) P Q to back h = (to s h.0, λ other q. h.1 other (back other q))
described_same Several P Q to back h = (h.0, h.1, to h.0 h.2, to h.1 h.3, h.4)

-- at a position that the pass has come to, all that arrives has come from below
pub settled : (m : Member) (at p : ℕ) (seen : Seen) → p ≤ at → Describes seen (FromBelow m at p)
    → Describes seen (Arrives m p)
settled m at p seen low described =
    described_same seen (FromBelow m at p) (Arrives m p)
    (λ s. arrives_of_below m at p s)
    (λ s h. below_more m p at p s low (below_of_arrives m p s h))
    described

-- the next bound adds what one position hands on
below_split : (m : Member) (at p : ℕ) (alone s : Abs) → ArrivesAlone m at alone
    → (h : IsHandedOn m (at + 1) p s) → (h.from < at) ⊎ (at ≤ h.from)
    → FromBelow m at p s ⊎ Leads m at alone p s
below_split m at p alone s arrival h (inl lower) =
    inl (inr (record {
      from = h.from;
      below = lower;
      before = h.before;
      arrives = h.arrives;
      leads =
          h.leads;
    }))
below_split m at p alone s arrival h (inr least) =
    let within : h.from < at + 1 = h.below in
    let same : h.from ≡ at = omega arith in
    let arrives : Arrives m at h.before = subst (λ (q : ℕ). Arrives m q h.before) same h.arrives in
    let leads : Leads m at h.before p s = subst (λ (q : ℕ). Leads m q h.before p s) same h.leads in
    inr (subst (λ (before : Abs). Leads m at before p s) (arrival.alone h.before arrives) leads)

pub below_less : (m : Member) (at p : ℕ) (alone s : Abs) → ArrivesAlone m at alone
    → FromBelow m (at + 1) p s → FromBelow m at p s ⊎ Leads m at alone p s
below_less m at p alone s arrival (inl h) = inl (inl h)
below_less m at p alone s arrival (inr h) =
    below_split m at p alone s arrival h (cases_lt h.from at)

pub below_step : (m : Member) (at p : ℕ) (alone s : Abs) → ArrivesAlone m at alone
    → FromBelow m at p s ⊎ Leads m at alone p s → FromBelow m (at + 1) p s
below_step m at p alone s arrival (inl h) = below_more m at (at + 1) p s (omega arith) h
below_step m at p alone s arrival (inr h) =
    inr (record {
      from = at;
      below = omega arith;
      before = alone;
      arrives = arrival.arrives;
      leads =
          h;
    })
