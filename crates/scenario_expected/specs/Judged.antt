-- A verdict that is expected, and the one that was found.
use Rattle.std.specs.Prelude.{◌&&◌, nat_eq, Bool, true, false, Option, None, Some}
use Rattle.model.specs.LocalRule.{rule_number}
use Rattle.model.specs.declared.abs.Refusal.{Refusal}
use Rattle.model.specs.declared.abs.Rule.{Rule}
use Rattle.scenario_names.specs.declared.names.Spot.{Spot}
use Rattle.scenario_expected.specs.declared.expectation.Verdict.{Verdict}
use Rattle.scenario_expected.specs.declared.expectation.Verdict.TheVariants.{Accepted, Refused}

-- a refusal is for this rule, in this routine of this driver, at this position
abbrev pub is_refused_so : Rule → Spot → Refusal → Bool
is_refused_so rule spot refusal =
    nat_eq (rule_number rule) (rule_number refusal.rule) && nat_eq spot.driver refusal.driver
    && nat_eq spot.routine refusal.routine && nat_eq spot.position refusal.at

-- the verdict is the one that found this: the set's first fault, or none
abbrev pub is_verdict : Verdict → Option Refusal → Bool
is_verdict Accepted None = true
is_verdict Accepted (Some refusal) = false
is_verdict (Refused rule spot) None = false
is_verdict (Refused rule spot) (Some refusal) = is_refused_so rule spot refusal
