-- The loops of a routine. `loop` opens one, and `end` closes the innermost that is open, as
-- brackets do. A loop's body is what stands between, up to and with its `end`. This bytecode is
-- this project's own.
use Rattle.std.specs.Prelude.{ℕ, zero, suc, ◌*◌, Bool, not, List, [], ◌∷◌, length, drop, filter, Option, None, Some, nat_eq, slice_get}
use Rattle.std.specs.List.{list_any}
use Rattle.model.specs.declared.instr.Instr.{Instr}
use Rattle.model.specs.Set.{Flow, Onward, Branches, Jumps, Opens, Closes, Leaves, flow_of}

-- the loops that are open after an instruction at a position, where others were open before it
abbrev pub open_by : Flow → ℕ → List ℕ → List ℕ
open_by Onward p loops = loops
open_by (Branches label) p loops = loops
open_by (Jumps label) p loops = loops
open_by (Opens turns) p loops = p ∷ loops
open_by Closes p loops = drop 1 loops
open_by Leaves p loops = loops

abbrev pub open_after : Option Instr → ℕ → List ℕ → List ℕ
open_after None p loops = loops
open_after (Some i) p loops = open_by (flow_of i) p loops

-- the loops that are open before a position, the innermost first, each by the position of its
-- `loop`
abbrev pub open_at : List Instr → ℕ → List ℕ
open_at code zero = []
open_at code (suc p) = open_after (slice_get code p) p (open_at code p)

-- a loop has an `end`: it isn't still open where the routine's text ends
abbrev pub is_closed : List Instr → ℕ → Bool
is_closed code q = not (list_any (nat_eq q) (open_at code (length code)))

-- the loops whose body holds a position, the innermost first; one without an `end` has no body
abbrev pub loops_round : List Instr → ℕ → List ℕ
loops_round code p = filter (is_closed code) (open_at code p)

-- the turns of a loop
abbrev pub turns_in : Flow → ℕ
turns_in Onward = 1
turns_in (Branches label) = 1
turns_in (Jumps label) = 1
turns_in (Opens turns) = turns
turns_in Closes = 1
turns_in Leaves = 1

abbrev pub turns_of : Option Instr → ℕ
turns_of None = 1
turns_of (Some i) = turns_in (flow_of i)

-- the product of the turns of these loops
abbrev pub turns_product : List Instr → List ℕ → ℕ
turns_product code [] = 1
turns_product code (q ∷ loops) = turns_of (slice_get code q) * turns_product code loops
