-- Paths through a routine, and the states that arrive along them. A path is a list of positions,
-- the last one first: it starts at 0, goes on by successors, and meets no fault before its last
-- position.
use Rattle.std.specs.Prelude.{ℕ, ◌≡◌, ◌+◌, ◌&&◌, ◌||◌, ◌⊎◌, not, Bool, true, false, List, [], ◌∷◌, length, nat_eq, nat_lt, nat_le, Option, None, Some, Result, Ok, Err, slice_get}
use Rattle.model.specs.declared.abs.Abs.{Abs}
use Rattle.model.specs.declared.abs.Outs.{Outs}
use Rattle.model.specs.declared.abs.Rule.{Rule}
use Rattle.model.specs.declared.instr.Instr.{Instr}
use Rattle.model.specs.declared.limits.TheConstants.{MAX_LOOPS}
use Rattle.model.specs.Edition.{Edition, First, Second, is_dequeue}
use Rattle.model.specs.LocalRule.{entry_under, local_rule_under}
use Rattle.model.specs.Loops.{open_at, is_closed, loops_round}
use Rattle.model.specs.Set.{Member, Flow, Onward, Branches, Jumps, Opens, Closes, Leaves, flow_of, label_of}

-- an instruction doesn't lead out of its routine, or there is none
abbrev pub goes_on_by : Flow → Bool
goes_on_by Onward = true
goes_on_by (Branches label) = true
goes_on_by (Jumps label) = true
goes_on_by (Opens turns) = true
goes_on_by Closes = true
goes_on_by Leaves = false

abbrev pub isnt_return : Option Instr → Bool
isnt_return None = true
isnt_return (Some i) = goes_on_by (flow_of i)

-- the same positions in the same order
abbrev pub are_same_positions : List ℕ → List ℕ → Bool
are_same_positions [] [] = true
are_same_positions [] (q ∷ qs) = false
are_same_positions (p ∷ ps) [] = false
are_same_positions (p ∷ ps) (q ∷ qs) = nat_eq p q && are_same_positions ps qs

-- a jump goes forward, to a position of the routine round which the same loops are
abbrev pub goes_forward : List Instr → ℕ → ℕ → Bool
goes_forward code p label =
    nat_lt p label
    && (nat_lt label (length code) && are_same_positions (loops_round code p)
    (loops_round code label))

-- an instruction that can't stand at its position: a jump that leads back, or out of a loop's body
-- or into one; a `loop` without an `end`, or with four loops round it; an `end` without a `loop`
abbrev pub is_misplaced_by : List Instr → ℕ → Flow → Bool
is_misplaced_by code p Onward = false
is_misplaced_by code p (Branches label) = not (goes_forward code p label)
is_misplaced_by code p (Jumps label) = not (goes_forward code p label)
is_misplaced_by code p (Opens turns) =
    not (is_closed code p) || nat_le MAX_LOOPS (length (loops_round code p))
is_misplaced_by code p Closes = nat_eq (length (open_at code p)) 0
is_misplaced_by code p Leaves = false

abbrev pub is_misplaced : List Instr → ℕ → Option Instr → Bool
is_misplaced code p None = false
is_misplaced code p (Some i) = is_misplaced_by code p (flow_of i)

-- an instruction that its edition doesn't have
abbrev pub is_unknown : Edition → Option Instr → Bool
is_unknown First None = false
is_unknown First (Some i) = is_dequeue i
is_unknown Second i = false

-- what stands at a position is no part of a routine, whatever leads there: the routine is empty,
-- its last instruction isn't a return, or an instruction can't stand where it does, or not at all
abbrev pub is_malformed_under : Edition → List Instr → ℕ → Bool
is_malformed_under e code p =
    is_unknown e (slice_get code p)
    || (nat_eq (length code) 0
    || ((nat_eq (p + 1) (length code) && isnt_return (slice_get code p))
    || is_misplaced code p (slice_get code p)))

abbrev pub is_malformed : List Instr → ℕ → Bool
is_malformed code p = is_malformed_under Second code p

-- what the local rule hands on from position q goes to position p as the state s: to the next
-- position, or to the label
abbrev pub HandsOn : Result Outs Rule → Option ℕ → ℕ → ℕ → Abs → Type 0
HandsOn (Err rule) label q p s = ⊥
HandsOn (Ok outs) label q p s = ((p ≡ q + 1) × (outs.next ≡ Some s))
    ⊎ ((label ≡ Some p) × (outs.jump ≡ Some s))

abbrev pub LeadsFromUnder : Edition → Member → Option Instr → ℕ → Abs → ℕ → Abs → Type 0
LeadsFromUnder e m None q before p s = ⊥
LeadsFromUnder e m (Some i) q before p s =
    HandsOn (local_rule_under e before i m.routine.sort m.set m.driver) (label_of i) q p s

-- the instruction at q, reached in a state, leads to p in the state s, and there is no fault at q
abbrev pub LeadsUnder : Edition → Member → ℕ → Abs → ℕ → Abs → Type 0
LeadsUnder e m q before p s =
    (is_malformed_under e m.routine.code q ≡ false)
    × LeadsFromUnder e m (slice_get m.routine.code q) q before p s

-- a path leads to its last position in a state
abbrev pub AlongUnder : Edition → Member → List ℕ → Abs → Type 0
AlongUnder e m [] s = ⊥
AlongUnder e m (p ∷ []) s = (p ≡ 0) × (entry_under e m ≡ Some s)
AlongUnder e m (p ∷ q ∷ path) s =
    (before : Abs) × AlongUnder e m (q ∷ path) before × LeadsUnder e m q before p s

-- some path leads to a position in a state
abbrev pub ArrivesUnder : Edition → Member → ℕ → Abs → Type 0
ArrivesUnder e m p s = (path : List ℕ) × AlongUnder e m (p ∷ path) s

-- the same by the rules of the second edition
abbrev pub LeadsFrom : Member → Option Instr → ℕ → Abs → ℕ → Abs → Type 0
LeadsFrom m i q before p s = LeadsFromUnder Second m i q before p s

abbrev pub Leads : Member → ℕ → Abs → ℕ → Abs → Type 0
Leads m q before p s = LeadsUnder Second m q before p s

abbrev pub Along : Member → List ℕ → Abs → Type 0
Along m path s = AlongUnder Second m path s

abbrev pub Arrives : Member → ℕ → Abs → Type 0
Arrives m p s = ArrivesUnder Second m p s
