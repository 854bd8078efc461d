-- What shows that a driver set is refused rightly.
use Rattle.std.specs.Prelude.{ℕ, suc, true, ◌≡◌, ◌≢◌, ◌<◌, ◌⊎◌, Option, None, Some, length, slice_get}
use Rattle.model.specs.declared.abs.Abs.{Abs}
use Rattle.model.specs.declared.abs.Refusal.{Refusal}
use Rattle.model.specs.declared.abs.Rule.{Rule}
use Rattle.model.specs.declared.abs.Rule.TheVariants.{Malformed, Unreachable, StatesDiffer, Sort as SortRule, TooLong as TooLongRule, Memory}
use Rattle.model.specs.declared.instr.Instr.TheVariants.{End}
use Rattle.model.specs.declared.limits.TheConstants.{MAX_CERTIFICATE}
use Rattle.model.specs.Certificate.{certificate_to}
use Rattle.model.specs.LocalRule.{entry_state}
use Rattle.model.specs.Loops.{open_at}
use Rattle.model.specs.Paths.{Arrives, is_malformed}
use Rattle.model.specs.Set.{Set, Member}
use Rattle.model.specs.Typable.{at_start, fault_in}
use Rattle.verifier_evidence.specs.declared.evidence.Evidence.{Evidence}
use Rattle.verifier_evidence.specs.declared.evidence.Evidence.TheVariants.{Misplaced, Unreached, NotEntered, Broken, Differing, Unlike, TooLong}
use Rattle.verifier_evidence.specs.declared.trail.Path.{Path}
use Rattle.verifier_evidence.specs.Path.{IsPathTo, member_of}

-- a path leads to an instruction that breaks a rule in the state that arrives
pub record Breaks (m : Member) (at : ℕ) (rule : Rule) (path : Path) : Type 0 where
  pub leads : IsPathTo m at path
  pub breaks : fault_in m path.last.state (slice_get m.routine.code at) ≡ Some rule

-- two paths lead to a position, and states that differ arrive
pub record Differ (m : Member) (at : ℕ) (one other : Path) : Type 0 where
  pub one_leads : IsPathTo m at one
  pub other_leads : IsPathTo m at other
  pub differ : one.last.state ≢ other.last.state

-- a path leads to a loop's end, and another one to its start, where another state arrives
pub record IsUnlike (m : Member) (at : ℕ) (start last : Path) : Type 0 where
  pub closes : slice_get m.routine.code at ≡ Some End
  pub opened : slice_get (open_at m.routine.code at) 0 ≡ Some start.last.at
  pub start_leads : IsPathTo m start.last.at start
  pub last_leads : IsPathTo m at last
  pub differ : start.last.state ≢ last.last.state

-- a path leads to a position where the sum of the certificate passes the limit
pub record IsLong (m : Member) (at : ℕ) (path : Path) (sum : ℕ) : Type 0 where
  pub leads : IsPathTo m at path
  pub summed : sum ≡ certificate_to m.routine.code (suc at)
  pub long : MAX_CERTIFICATE < sum

-- the evidence that a rule is broken at a position of a routine
abbrev pub Shows : Member → ℕ → Rule → Evidence → Type 0
Shows m at rule Misplaced = (rule ≡ Malformed) × (is_malformed m.routine.code at ≡ true)
Shows m at rule Unreached = (rule ≡ Unreachable) × ((s : Abs) → Arrives m at s → ⊥)
Shows m at rule NotEntered = (rule ≡ SortRule) × ((at ≡ 0) × (entry_state m ≡ None))
Shows m at rule (Broken path) = Breaks m at rule path
Shows m at rule (Differing one other) = (rule ≡ StatesDiffer) × Differ m at one other
Shows m at rule (Unlike start last) = (rule ≡ StatesDiffer) × IsUnlike m at start last
Shows m at rule (TooLong path sum) = (rule ≡ TooLongRule) × IsLong m at path sum

-- the evidence of a refusal: that of a routine
abbrev pub ShowsIn : Option Member → Refusal → Evidence → Type 0
ShowsIn None refusal evidence = ⊥
ShowsIn (Some m) refusal evidence = Shows m refusal.at refusal.rule evidence

-- a set without devices has none, nor has a refusal for want of memory
abbrev pub IsEvidence : Set → Refusal → Option Evidence → Type 0
IsEvidence set refusal None =
    (refusal ≡ at_start Memory) ⊎ ((length set.devices ≡ 0) × (refusal ≡ at_start Malformed))
IsEvidence set refusal (Some evidence) =
    ShowsIn (member_of set refusal.driver refusal.routine) refusal evidence
