-- What is noted of the positions of a routine on the way to a place: of each the first arrival that
-- was found, and where it came from.
use Rattle.std.specs.Prelude.{ℕ, ◌≡◌, ◌+◌, ◌<◌, List, length, Option, None, Some, Result, Ok, Err, slice_get, slice_set}
use Rattle.model.specs.declared.abs.Abs.{Abs}
use Rattle.model.specs.declared.abs.Outs.{Outs}
use Rattle.model.specs.declared.abs.Rule.{Rule}
use Rattle.model.specs.declared.instr.Instr.{Instr}
use Rattle.model.specs.LocalRule.{entry_state, local_rule}
use Rattle.model.specs.Paths.{Arrives, Leads}
use Rattle.model.specs.Set.{Member, label_of}
use Rattle.model.specs.Typable.{IsFineAt}
use Rattle.verifier.specs.Pass.{FromBelow}
use Rattle.verifier_evidence.specs.declared.arrivals.Arrival.{Arrival}

-- the table has an arrival at a position
abbrev pub HasArrival : List (Option Arrival) → ℕ → Type 0
HasArrival table p = (a : Arrival) × (slice_get table p ≡ Some (Some a))

-- a table after an arrival at a position: the first one there stays
abbrev pub noted_by : Option (Option Arrival) → List (Option Arrival) → ℕ → Arrival
    → List (Option Arrival)
noted_by None table to a = table
noted_by (Some None) table to a = slice_set table to (Some a)
noted_by (Some (Some first)) table to a = table

abbrev pub noted : List (Option Arrival) → ℕ → Arrival → List (Option Arrival)
noted table to a = noted_by (slice_get table to) table to a

-- a table after a state is handed on from a position, or none
abbrev pub noted_out : Option ℕ → Option Abs → ℕ → List (Option Arrival) → List (Option Arrival)
noted_out None s from table = table
noted_out (Some to) None from table = table
noted_out (Some to) (Some s) from table =
    noted table to (record { from = Some from; state = s })

abbrev pub noted_outs : Outs → Option ℕ → ℕ → List (Option Arrival) → List (Option Arrival)
noted_outs outs label from table =
    noted_out label outs.jump from (noted_out (Some (from + 1)) outs.next from table)

abbrev pub noted_result : Result Outs Rule → Option ℕ → ℕ → List (Option Arrival)
    → List (Option Arrival)
noted_result (Err rule) label from table = table
noted_result (Ok outs) label from table = noted_outs outs label from table

-- a table after what arrives at a position is taken through the instruction there
abbrev pub passed_by : Member → ℕ → Option (Option Arrival) → Option Instr
    → List (Option Arrival) → List (Option Arrival)
passed_by m from None i table = table
passed_by m from (Some None) i table = table
passed_by m from (Some (Some a)) None table = table
passed_by m from (Some (Some a)) (Some i) table =
    noted_result (local_rule a.state i m.routine.sort m.set m.driver) (label_of i) from table

abbrev pub passed_on : Member → ℕ → List (Option Arrival) → List (Option Arrival)
passed_on m from table =
    passed_by m from (slice_get table from) (slice_get m.routine.code from) table

-- an arrival came from one below it
pub record FollowsFrom (m : Member) (table : List (Option Arrival)) (q p : ℕ) (s : Abs)
    : Type 0 where
  pub below : q < p
  pub before : Arrival
  pub there : slice_get table q ≡ Some (Some before)
  pub leads : Leads m q before.state p s

-- what is noted at a position hands a state on to another one
pub record Hands (m : Member) (table : List (Option Arrival)) (q p : ℕ) (s : Abs) : Type 0 where
  pub before : Arrival
  pub there : slice_get table q ≡ Some (Some before)
  pub leads : Leads m q before.state p s

-- where an arrival came from: the routine's entry, or an arrival below it
abbrev pub ComesFrom : Member → List (Option Arrival) → ℕ → Abs → Option ℕ → Type 0
ComesFrom m table p s None = (p ≡ 0) × (entry_state m ≡ Some s)
ComesFrom m table p s (Some q) = FollowsFrom m table q p s

pub record IsReached (m : Member) (table : List (Option Arrival)) (p : ℕ) (a : Arrival)
    : Type 0 where
  pub comes : ComesFrom m table p a.state a.from
  pub arrives : Arrives m p a.state

-- each arrival of a table is one
abbrev pub IsTraced : Member → List (Option Arrival) → Type 0
IsTraced m table = (p : ℕ) (a : Arrival) → slice_get table p ≡ Some (Some a)
    → IsReached m table p a

-- an arrival is noted at a position where anything arrives
abbrev pub IsCoveredAt : Member → List (Option Arrival) → ℕ → Type 0
IsCoveredAt m table at = (s : Abs) → Arrives m at s → HasArrival table at

-- when the way to a place has come to a position, all positions below it are fine, each arrival
-- noted is one, and there is one where anything arrives from below
pub record AreKnown (m : Member) (bound : ℕ) (table : List (Option Arrival)) : Type 0 where
  pub long : length table ≡ length m.routine.code
  pub traced : IsTraced m table
  pub covered : (p : ℕ) (s : Abs) → p < length m.routine.code → FromBelow m bound p s
      → HasArrival table p

-- all positions below one are fine
abbrev pub AreFine : Member → ℕ → Type 0
AreFine m at = (p : ℕ) → p < at → IsFineAt m p
