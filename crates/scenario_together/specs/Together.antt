-- Threads that run in every interleaving from one place of a scenario.
use Rattle.std.specs.Prelude.{ℕ, ◌≡◌, ◌⊎◌, Bool, true, false, List, Some, slice_get}
use Rattle.model.specs.declared.event.Event.TheVariants as event
use Rattle.scenario_run.specs.Playing.{Playing, happened}
use Rattle.scenario_together.specs.declared.together.Together.{Together}
use Rattle.scenario_together.specs.declared.together.Together.TheVariants.{Ends, Fails, More}
use Rattle.scenario_together.specs.Interleaving.{AreMany, IsEnd, IsInterleaving, LeadIf, MeetFew, behind, fails_with, may_step}
use Rattle.hunt_walks.specs.Walks.{AreAlike, AreClosed, AreFew, FailsBehind, MeetsAll}

-- no step of any interleaving fails
abbrev pub GoWell : List Bool → Playing → Type 0
GoWell named p =
    (path : List ℕ) (t : ℕ) → IsInterleaving named p path → may_step named p path t ≡ true
    → fails_with p path t ≡ false

-- a play is among some to which an interleaving leads alike
pub record IsReached (merges : Bool) (p : Playing) (plays : List Playing) (path : List ℕ) : Type 0 where
  pub number : ℕ
  pub other : List ℕ
  pub kept : slice_get plays number ≡ Some (behind p other)
  pub same : (path ≡ other) ⊎ LeadIf merges p path other

-- these are the ends of all interleavings, one for each world that they lead to
pub record AreEnds (merges : Bool) (named : List Bool) (p : Playing) (plays : List Playing) : Type 0 where
  pub well : GoWell named p
  pub sound : (k : ℕ) (q : Playing) → slice_get plays k ≡ Some q
      → (path : List ℕ) × IsEnd named p path × (q ≡ behind p path)
  pub all : (path : List ℕ) → IsEnd named p path → IsReached merges p plays path

-- interleavings that are kept are followed by each step, and so meet all
abbrev pub AreKept : Bool → List Bool → Playing → List (List ℕ) → Type 0
AreKept merges named p paths =
    AreClosed (may_step named p) (fails_with p) (LeadIf merges p) 64 paths
    × (AreAlike (may_step named p) (fails_with p) (LeadIf merges p)
    → AreFew (may_step named p) 64
    → MeetsAll (may_step named p) (fails_with p) (LeadIf merges p) paths)

-- a play is behind a step of an interleaving that fails
pub record IsFailing (named : List Bool) (p q : Playing) : Type 0 where
  pub path : List ℕ
  pub thread : ℕ
  pub fails : FailsBehind (may_step named p) (fails_with p) path thread
  pub there : q ≡ happened (behind p path) (event.Step thread)

-- what threads come to together, where so many worlds may be met
abbrev pub IsTogether : Bool → List Bool → ℕ → Playing → Together → Type 0
IsTogether merges named worlds p (Ends plays) =
    AreEnds merges named p plays.items × MeetFew named worlds p
IsTogether merges named worlds p (Fails q) = IsFailing named p q
IsTogether merges named worlds p More = AreMany named worlds p
