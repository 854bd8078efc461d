-- An instruction leads to a position above it alone.
use Rattle.std.proofs.Common.{◌≡◌, ◌∙◌, ℕ, ◌+◌, ◌<◌, inl, inr, true, false, Bool, List, length, Option, None, Some, Result, Ok, Err, nat_eq, nat_lt, refl, arith, subst, sym, ap}
use Rattle.std.specs.Prelude.{slice_get, ◌&&◌, ◌||◌, not}
use Rattle.std.proofs.lemmas.Bool.{ltb-true}
use Rattle.model.specs.declared.abs.Abs.{Abs}
use Rattle.model.specs.declared.abs.Outs.{Outs}
use Rattle.model.specs.declared.abs.Rule.{Rule}
use Rattle.model.specs.declared.instr.Instr.{Instr}
use Rattle.model.specs.LocalRule.{local_rule}
use Rattle.model.specs.Loops.{loops_round}
use Rattle.model.specs.Paths.{HandsOn, LeadsFrom, Leads, is_malformed, is_misplaced_by, is_misplaced, isnt_return, goes_forward, are_same_positions}
use Rattle.model.specs.Set.{Member, Flow, Onward, Branches, Jumps, Opens, Closes, Leaves, flow_of, label_in, label_of}

third_of_or : (first second third : Bool) → (first || (second || third)) ≡ false → third ≡ false
third_of_or true second third none = cc
third_of_or false true third none = cc
third_of_or false false third none = none

both_of_and : (first second : Bool) → (first && second) ≡ true → (first ≡ true) × (second ≡ true)
both_of_and true second both = (refl, both)
both_of_and false second both = cc

of_not : (b : Bool) → not b ≡ false → b ≡ true
of_not true h = refl
of_not false h = cc

placed_jump : (code : List Instr) (q p : ℕ) (f : Flow) → label_in f ≡ Some p
    → is_misplaced_by code q f ≡ false → goes_forward code q p ≡ true
placed_jump code q p Onward leads formed = cc
placed_jump code q p (Branches label) leads formed =
    let same : label ≡ p =
    cc in subst (λ (l : ℕ). goes_forward code q l ≡ true) same
    (of_not (goes_forward code q label) formed)
placed_jump code q p (Jumps label) leads formed =
    let same : label ≡ p =
    cc in subst (λ (l : ℕ). goes_forward code q l ≡ true) same
    (of_not (goes_forward code q label) formed)
placed_jump code q p (Opens turns) leads formed = cc
placed_jump code q p Closes leads formed = cc
placed_jump code q p Leaves leads formed = cc

pub formed_place : (code : List Instr) (q : ℕ) → is_malformed code q ≡ false
    → is_misplaced code q (slice_get code q) ≡ false
formed_place code q formed =
    third_of_or (nat_eq (length code) 0)
    (nat_eq (q + 1) (length code) && isnt_return (slice_get code q))
    (is_misplaced code q (slice_get code q)) formed

-- a jump that can stand where it does goes forward
pub jump_forward : (code : List Instr) (q p : ℕ) (i : Instr) → slice_get code q ≡ Some i
    → is_malformed code q ≡ false → label_of i ≡ Some p → goes_forward code q p ≡ true
jump_forward code q p i here formed leads =
    let placed : is_misplaced code q (Some i) ≡ false = ap (is_misplaced code q) (sym here)
    ∙ formed_place code q formed in
    placed_jump code q p (flow_of i) leads placed

pub jump_up : (code : List Instr) (q p : ℕ) (i : Instr) → slice_get code q ≡ Some i
    → is_malformed code q ≡ false → label_of i ≡ Some p → q < p
jump_up code q p i here formed leads =
    ltb-true q p (both_of_and (nat_lt q p)
    (nat_lt p (length code) && are_same_positions (loops_round code q) (loops_round code p))
    (jump_forward code q p i here formed leads)).0

hands_up : (code : List Instr) (q p : ℕ) (i : Instr) (handed : Result Outs Rule) (s : Abs)
    → slice_get code q ≡ Some i → is_malformed code q ≡ false
    → HandsOn handed (label_of i) q p s → q < p
hands_up code q p i (Err rule) s here formed h = absurd h
hands_up code q p i (Ok outs) s here formed (inl h) = let next : p ≡ q + 1 = h.0 in omega arith
hands_up code q p i (Ok outs) s here formed (inr h) = jump_up code q p i here formed h.0

leads_from_up : (m : Member) (q : ℕ) (before : Abs) (p : ℕ) (i : Option Instr) (s : Abs)
    → slice_get m.routine.code q ≡ i
    → is_malformed m.routine.code q ≡ false → LeadsFrom m i q before p s → q < p
leads_from_up m q before p None s here formed h = absurd h
leads_from_up m q before p (Some i) s here formed h =
    hands_up m.routine.code q p i (local_rule before i m.routine.sort m.set m.driver) s here formed
    h

pub leads_up : (m : Member) (q : ℕ) (before : Abs) (p : ℕ) (s : Abs) → Leads m q before p s → q < p
leads_up m q before p s h = leads_from_up m q before p (slice_get m.routine.code q) s refl h.0 h.1
