-- What a path and a fault show together.
use Rattle.std.proofs.Common.{◌≡◌, ◌∙◌, ℕ, zero, suc, ◌<◌, ◌≤◌, ◌+◌, List, [], ◌∷◌, Option, None, Some, map, refl, arith, sym, subst, ap}
use Rattle.std.specs.Prelude.{reverse, slice_get, IfSome}
use Rattle.model.specs.declared.abs.Abs.{Abs}
use Rattle.model.specs.declared.abs.Rule.{Rule}
use Rattle.model.specs.declared.abs.Rule.TheVariants.{TooLong}
use Rattle.model.specs.declared.limits.TheConstants.{MAX_CERTIFICATE}
use Rattle.model.specs.Certificate.{certificate_to}
use Rattle.model.specs.Paths.{Along, Arrives}
use Rattle.model.specs.Set.{Member}
use Rattle.model.specs.Typable.{IsBroken, IsFaultAt, IsTooLong, fault_in}
use Rattle.verifier_evidence.specs.declared.trail.Path.{Path}
use Rattle.verifier_evidence.specs.declared.trail.Step.{Step}
use Rattle.verifier_evidence.specs.Evidence.{Breaks, IsLong, IsUnlike}
use Rattle.verifier_evidence.specs.Path.{IsTrail, IsPathTo}
use Rattle.verifier_evidence.specs.Table.{AreFine}
use Rattle.verifier_evidence.proofs.Cases.{long_of}
use Rattle.verifier_evidence.proofs.Ending.{IsStart}

-- a path is one of the model's
abbrev at_step : Step → ℕ
at_step step = step.at

trail_along : (m : Member) (step : Step) (steps : List Step) → IsTrail m (step ∷ steps)
    → Along m (step.at ∷ map at_step steps) step.state
trail_along m step [] trail = trail
trail_along m step (before ∷ steps) trail =
    (before.state, trail_along m before steps trail.0, trail.1)

pub path_arrives : (m : Member) (at : ℕ) (path : Path) → IsPathTo m at path
    → Arrives m at path.last.state
path_arrives m at path to =
    subst (λ (p : ℕ). Arrives m p path.last.state) to.ends
    (map at_step (reverse path.before), trail_along m path.last (reverse path.before) to.leads)

pub shown_path : (m : Member) (at : ℕ) (found : Option Path) (path : Path) → found ≡ Some path
    → IfSome found (λ p. IsPathTo m at p) → IsPathTo m at path
shown_path m at None path is shown = cc
shown_path m at (Some other) path is shown =
    let same : other ≡ path = cc in subst (λ (p : Path). IsPathTo m at p) same shown

-- the instruction breaks the rule in the state that arrives along the path
pub shown_broken : (m : Member) (at : ℕ) (rule : Rule) (path : Path) → IsPathTo m at path
    → IsBroken m at rule → Breaks m at rule path
shown_broken m at rule path to broken =
    let same : path.last.state ≡ broken.state =
    broken.arrival.alone path.last.state (path_arrives m at path to) in
    record {
      leads = to;
      breaks = ap (λ (s : Abs). fault_in m s (slice_get m.routine.code at)) same ∙ broken.breaks;
    }

-- the sums up to the place are short
pub fine_short : (m : Member) (at p : ℕ) → AreFine m at → p ≤ at
    → certificate_to m.routine.code p ≤ MAX_CERTIFICATE
fine_short m at zero fine low = omega arith
fine_short m at (suc p) fine low = (fine p (omega arith)).short

pub shown_long : (m : Member) (at sum : ℕ) (rule : Rule) (path : Path) → IsPathTo m at path
    → rule ≡ TooLong → IsFaultAt m at rule → sum ≡ certificate_to m.routine.code (at + 1)
    → (rule ≡ TooLong) × IsLong m at path sum
shown_long m at sum rule path to is fault told =
    let next : at + 1 ≡ suc at = omega arith in
    let counted : sum ≡ certificate_to m.routine.code (suc at) =
    told ∙ ap (certificate_to m.routine.code) next in
    let long : IsTooLong m at = long_of m at (subst (λ (r : Rule). IsFaultAt m at r) is fault) in (
      is,
      record {
        leads = to;
        summed = counted;
        long = subst (λ (n : ℕ). MAX_CERTIFICATE < n) (sym counted) long.long;
      },
    )

-- a loop's start is reached in another state than its end
pub shown_unlike : (m : Member) (at q : ℕ) (state : Abs) (start last : Path) → IsPathTo m at last
    → IsPathTo m q start → IsStart m at q state → last.last.state ≡ state → IsUnlike m at start last
shown_unlike m at q state start last to to_start is same =
    let there : start.last.state ≡ is.start =
    is.arrival.alone start.last.state (path_arrives m q start to_start) in
    record {
      closes = is.closes;
      opened = is.opened ∙ ap (λ (n : ℕ). Some n) (sym to_start.ends);
      start_leads = record { leads = to_start.leads; ends = refl };
      last_leads = to;
      differ = λ alike. is.differs (sym there ∙ alike ∙ same);
    }
