-- What the pass over a routine knows when it comes to a position, and what it answers.
use Rattle.std.specs.Prelude.{ℕ, Bool, true, false, ◌≡◌, ◌+◌, ◌<◌, ◌≤◌, ◌⊎◌, List, length, Option, None, Some, slice_get, slice_index_or}
use Rattle.model.specs.declared.abs.Abs.{Abs}
use Rattle.model.specs.declared.instr.Instr.{Instr}
use Rattle.model.specs.declared.limits.TheConstants.{MAX_CERTIFICATE}
use Rattle.model.specs.Certificate.{certificate_to}
use Rattle.model.specs.LocalRule.{entry_state, refuses}
use Rattle.model.specs.Paths.{Arrives, Leads, is_malformed}
use Rattle.model.specs.Set.{Member, Flow, Onward, Branches, Jumps, Opens, Closes, Leaves, flow_of}
use Rattle.model.specs.Typable.{ArrivesAlone, ClosesAlike, IsFineAt}
use Rattle.verifier.specs.declared.loops.Place.{Place}
use Rattle.verifier.specs.declared.seen.Seen.{Seen}
use Rattle.verifier.specs.declared.seen.Seen.TheVariants.{Nothing}
use Rattle.verifier.specs.Survey.{ArePlaced}
use Rattle.verifier.specs.Table.{Describes}

-- the sums of the certificate up to a position are known, and none passes the limit
pub record AreSums (code : List Instr) (at : ℕ) (sums : List ℕ) : Type 0 where
  pub long : length sums ≡ length code + 1
  pub each : (p : ℕ) → p ≤ at → slice_index_or sums p 0 ≡ certificate_to code p
  pub short : (p : ℕ) → p ≤ at → certificate_to code p ≤ MAX_CERTIFICATE

-- an instruction at a position below a bound is reached, and leads to a position in a state
pub record IsHandedOn (m : Member) (bound p : ℕ) (s : Abs) : Type 0 where
  pub from : ℕ
  pub below : from < bound
  pub before : Abs
  pub arrives : Arrives m from before
  pub leads : Leads m from before p s

-- the states that arrive at a position from the start, or from a position below a bound
abbrev pub FromBelow : Member → ℕ → ℕ → Abs → Type 0
FromBelow m bound p s = ((p ≡ 0) × (entry_state m ≡ Some s)) ⊎ IsHandedOn m bound p s

-- a loop starts at a position
abbrev pub opens : Flow → Bool
opens Onward = false
opens (Branches label) = false
opens (Jumps label) = false
opens (Opens turns) = true
opens Closes = false
opens Leaves = false

abbrev pub is_start : Option Instr → Bool
is_start None = false
is_start (Some i) = opens (flow_of i)

-- when the pass comes to position `at` of a routine that can be entered, all positions below it are
-- fine. It has seen what arrives there, and the table says of each position above it what arrives
-- there from below `at`, and of each loop that starts below it what arrives there
pub record Knows (m : Member) (at : ℕ) (here : Seen) (table : List Seen) : Type 0 where
  pub entry : Abs
  pub entered : entry_state m ≡ Some entry
  pub long : length table ≡ length m.routine.code + 1
  pub fine : (p : ℕ) → p < at → IsFineAt m p
  pub seen : at < length m.routine.code → Describes here (FromBelow m at at)
  pub ahead : (p : ℕ) → at < p → p < length m.routine.code
      → Describes (slice_index_or table p Nothing) (FromBelow m at p)
  pub starts : (q : ℕ) → q < at → is_start (slice_get m.routine.code q) ≡ true
      → Describes (slice_index_or table q Nothing) (Arrives m q)

-- how far a pass has come: the routine that it goes over, and the position that it has come to
pub record Progress : Type 0 where
  pub member : Member
  pub at : ℕ

abbrev pub progress : Member → ℕ → Progress
progress m at = record { member = m; at = at }

-- what the pass keeps is right at a position
pub record IsRight (m : Member) (at : ℕ) (places : List Place) (here : Seen) (table : List Seen)
    (sums : List ℕ) : Type 0 where
  pub placed : ArePlaced m.routine.code (length m.routine.code) places
  pub known : Knows m at here table
  pub summed : AreSums m.routine.code at sums

-- no fault stands at a position but one of length
pub record IsPassed (m : Member) (at : ℕ) : Type 0 where
  pub formed : is_malformed m.routine.code at ≡ false
  pub instr : Instr
  pub here : slice_get m.routine.code at ≡ Some instr
  pub state : Abs
  pub arrival : ArrivesAlone m at state
  pub closes : ClosesAlike m at state (slice_get m.routine.code at)
  pub keeps : refuses state instr m.routine.sort m.set m.driver ≡ None
