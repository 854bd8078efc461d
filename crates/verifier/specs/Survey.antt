-- What the scans over a routine know of its loops when they come to a position.
use Rattle.std.specs.Prelude.{ℕ, ◌≡◌, ◌<◌, ◌≤◌, ◌+◌, true, false, Bool, List, length, Option, None, Some, nat_eq, slice_get, slice_set, slice_index_or, if◌then◌else◌}
use Rattle.std.specs.List.{list_any}
use Rattle.model.specs.declared.instr.Instr.{Instr}
use Rattle.model.specs.Loops.{open_at, is_closed, loops_round}
use Rattle.model.specs.Set.{Flow, Onward, Branches, Jumps, Opens, Closes, Leaves}
use Rattle.verifier.specs.declared.loops.Place.{Place}
use Rattle.verifier.specs.declared.loops.Round.{Round}

-- what leads to the next position alone, and neither opens nor closes a loop
abbrev pub is_onward : Flow → Bool
is_onward Onward = true
is_onward (Branches label) = false
is_onward (Jumps label) = false
is_onward (Opens turns) = false
is_onward Closes = false
is_onward Leaves = false

-- the first of a list of loops is the innermost
abbrev pub first_of : List ℕ → Option ℕ
first_of loops = slice_get loops 0

-- the loop round a loop, from the table
abbrev pub outer : Option ℕ → List (Option ℕ) → Option ℕ
outer None opened = None
outer (Some q) opened = slice_index_or opened q None

-- the innermost open loop after an instruction
abbrev pub open_next : Flow → ℕ → Option ℕ → List (Option ℕ) → Option ℕ
open_next Onward at inner opened = inner
open_next (Branches label) at inner opened = inner
open_next (Jumps label) at inner opened = inner
open_next (Opens turns) at inner opened = Some at
open_next Closes at inner opened = outer inner opened
open_next Leaves at inner opened = inner

-- which loops are open after an `end`
abbrev pub flags_ended : Option ℕ → List Bool → List Bool
flags_ended None flags = flags
flags_ended (Some q) flags = slice_set flags q false

-- which loops are open after an instruction
abbrev pub flags_next : Flow → ℕ → Option ℕ → List Bool → List Bool
flags_next Onward at inner flags = flags
flags_next (Branches label) at inner flags = flags
flags_next (Jumps label) at inner flags = flags
flags_next (Opens turns) at inner flags = slice_set flags at true
flags_next Closes at inner flags = flags_ended inner flags
flags_next Leaves at inner flags = flags

-- the table of the innermost open loops is right below a bound
pub record AreOpen (code : List Instr) (at : ℕ) (opened : List (Option ℕ)) : Type 0 where
  pub long : length opened ≡ length code
  pub each : (p : ℕ) → p < at → slice_index_or opened p None ≡ first_of (open_at code p)

-- the flags say which loops are open before a position
pub record AreFlagged (code : List Instr) (at : ℕ) (flags : List Bool) : Type 0 where
  pub long : length flags ≡ length code
  pub each : (q : ℕ) → q < length code
      → slice_index_or flags q false ≡ list_any (nat_eq q) (open_at code at)

-- the loops whose bodies hold a position
abbrev pub round_of : List ℕ → Round
round_of loops = record { innermost = first_of loops; depth = length loops }

-- what the pass has to know of the loops at a position
abbrev pub place_at : List Instr → ℕ → Place
place_at code p = record {
  opened = first_of (open_at code p);
  closed = is_closed code p;
  round = round_of (loops_round code p);
}

-- the places below a bound are known
pub record ArePlaced (code : List Instr) (at : ℕ) (places : List Place) : Type 0 where
  pub long : length places ≡ at
  pub each : (p : ℕ) → p < at → slice_get places p ≡ Some (place_at code p)

-- no more loops stand round a position than positions before it
abbrev pub AreShallow : List Place → Type 0
AreShallow places = (p : ℕ) (place : Place) → slice_get places p ≡ Some place
    → place.round.depth ≤ p

-- the loops round a position, from those round the innermost that is open there
abbrev pub round_from : Option Place → ℕ → Bool → Round
round_from None q unclosed = record { innermost = None; depth = 0 }
round_from (Some place) q unclosed =
    if unclosed then place.round else record { innermost = Some q; depth = place.round.depth + 1 }

abbrev pub round_next : Option ℕ → List Bool → List Place → Round
round_next None flags places = record { innermost = None; depth = 0 }
round_next (Some q) flags places = round_from (slice_get places q) q (slice_index_or flags q false)

-- what the first scan knows before a position: both tables, and the innermost open loop
pub record IsScanned
    (code : List Instr) (at : ℕ) (opened : List (Option ℕ)) (flags : List Bool) (inner : Option ℕ)
    : Type 0 where
  pub table : AreOpen code at opened
  pub flagged : AreFlagged code at flags
  pub first : inner ≡ first_of (open_at code at)

-- the places below a position, if each loop that is open there has an `end`
abbrev pub paired_at : List Instr → ℕ → Place
paired_at code p = record {
  opened = first_of (open_at code p);
  closed = true;
  round = round_of (open_at code p);
}

-- what a scan that takes each loop for closed knows before a position
pub record ArePaired (code : List Instr) (at : ℕ) (places : List Place) (round : Round) : Type 0
  where
    pub long : length places ≡ at
    pub each : (p : ℕ) → p < at → slice_get places p ≡ Some (paired_at code p)
    pub rounds : round ≡ round_of (open_at code at)

-- the open loops after an instruction, from the places before it
abbrev pub round_in : Option Place → Round
round_in None = record { innermost = None; depth = 0 }
round_in (Some place) = place.round

abbrev pub round_ended : Option ℕ → Round → List Place → Round
round_ended None round places = round
round_ended (Some q) round places = round_in (slice_get places q)

abbrev pub round_after : Flow → ℕ → Round → List Place → Round
round_after Onward at round places = round
round_after (Branches label) at round places = round
round_after (Jumps label) at round places = round
round_after (Opens turns) at round places =
    record { innermost = Some at; depth = round.depth + 1 }
round_after Closes at round places = round_ended round.innermost round places
round_after Leaves at round places = round
