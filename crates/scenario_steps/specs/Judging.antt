-- Steps that expect a verdict on the set, where it is known what that found; and those that ask for an
-- audit.
use Rattle.std.specs.Prelude.{◌&&◌, not, nat_eq, Bool, true, false, List, length, map, Option}
use Rattle.std.specs.List.{list_all}
use Rattle.model.specs.declared.abs.Refusal.{Refusal}
use Rattle.scenario_expected.specs.declared.expectation.Expectation.TheVariants.{Clean, Verdict, Judged}
use Rattle.scenario_steps.specs.declared.scenario.Action.{Action}
use Rattle.scenario_steps.specs.declared.scenario.Action.TheVariants.{Expect}
use Rattle.scenario_steps.specs.declared.scenario.Step.{Step}

-- a step that expects a verdict
abbrev pub is_of_verdict : Action → Bool
is_of_verdict (Expect (Verdict expected)) = true
is_of_verdict action = false

abbrev pub expects_verdict : Step → Bool
expects_verdict step = is_of_verdict step.action

-- steps expect nothing else, and there are some
abbrev pub expect_verdict_alone : List Step → Bool
expect_verdict_alone steps = list_all expects_verdict steps && not (nat_eq (length steps) 0)

-- the same, where what the verdict found is known: the set's first fault, or none
abbrev pub judged_action : Option Refusal → Action → Action
judged_action found (Expect (Verdict expected)) = Expect (Judged expected found)
judged_action found action = action

abbrev pub judged_step : Option Refusal → Step → Step
judged_step found step = record step { action = judged_action found step.action }

abbrev pub judged : Option Refusal → List Step → List Step
judged found steps = map (judged_step found) steps

-- a step asks for an audit
abbrev pub expects_audit : Action → Bool
expects_audit (Expect Clean) = true
expects_audit action = false
