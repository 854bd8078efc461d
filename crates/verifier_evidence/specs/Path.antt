-- Paths that a reader can follow: each step shows the state that arrives there.
use Rattle.std.specs.Prelude.{ℕ, ◌≡◌, List, [], ◌∷◌, reverse, Option, option_and_then, option_map, Some, slice_get}
use Rattle.model.specs.LocalRule.{entry_state}
use Rattle.model.specs.Paths.{Leads}
use Rattle.model.specs.Set.{Set, Member, member}
use Rattle.verifier_evidence.specs.declared.trail.Path.{Path}
use Rattle.verifier_evidence.specs.declared.trail.Step.{Step}

-- the routine of a number, of the driver of a number
abbrev pub member_of : Set → ℕ → ℕ → Option Member
member_of set driver number =
    option_map (λ routine. member set driver number routine)
    (option_and_then (λ d. slice_get d.routines number) (slice_get set.drivers driver))

-- the steps of a path, the last one first: it starts at 0 in the state in which the routine is
-- entered, and each step leads to the next one, without a fault
abbrev pub IsTrail : Member → List Step → Type 0
IsTrail m [] = ⊥
IsTrail m (step ∷ []) = (step.at ≡ 0) × (entry_state m ≡ Some step.state)
IsTrail m (step ∷ before ∷ steps) =
    IsTrail m (before ∷ steps) × Leads m before.at before.state step.at step.state

-- a path through the routine, from its start on
abbrev pub IsPath : Member → Path → Type 0
IsPath m path = IsTrail m (path.last ∷ reverse path.before)

-- it leads to a position
pub record IsPathTo (m : Member) (at : ℕ) (path : Path) : Type 0 where
  pub leads : IsPath m path
  pub ends : path.last.at ≡ at
