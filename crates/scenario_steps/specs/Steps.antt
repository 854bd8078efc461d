-- Steps as they are kept: those that do what is usual in a few bytes, each other one as it is.
use Rattle.std.specs.Prelude.{◌<◌, ℕ, ⊤, Bool, true, false, List, [], ◌∷◌, Option, None, Some, get_or, is_some}
use Rattle.scenario_expected.specs.declared.expectation.Expectation.TheVariants.{Packet}
use Rattle.scenario_expected.specs.declared.expectation.PacketState.TheVariants.{Topped}
use Rattle.scenario_steps.specs.declared.scenario.Action.{Action}
use Rattle.scenario_steps.specs.declared.scenario.Action.TheVariants.{Issue, Interrupt, Dpc, Run, RunAll, Together, Expect}
use Rattle.scenario_steps.specs.declared.scenario.Step.{Step}
use Rattle.scenario_steps.specs.Judging.{expects_audit, is_of_verdict}
use Rattle.scenario_steps.specs.declared.steps.Kept.{Kept}
use Rattle.scenario_steps.specs.declared.steps.Kept.TheVariants.{Brief, Whole}
use Rattle.scenario_steps.specs.declared.steps.Kind.{Kind}
use Rattle.scenario_steps.specs.declared.steps.Kind.TheVariants.{Verdict, Audit, Together as TogetherKind}
use Rattle.scenario_steps.specs.declared.steps.Usual.{Usual}
use Rattle.scenario_steps.specs.declared.steps.Usual.TheVariants.{Request, Interruption, Deferred, Running, ToppedAs}

-- what a step does, where that is usual
abbrev pub action_of : Usual → Action
action_of (Request thread device major argument) = Issue thread device major argument
action_of (Interruption device) = Interrupt device
action_of (Deferred thread device) = Dpc thread device
action_of (Running thread) = Run thread
action_of (ToppedAs packet status) = Expect (Packet packet (Topped (Some status) None))

-- a step that stands nowhere
abbrev pub no_step : Step
no_step = record { line = 0; may = true; action = RunAll }

-- the step that is kept so, beside those that are kept as they are
abbrev pub unfolded : List Step → Kept → Step
unfolded whole (Brief line usual) = record { line = line; may = false; action = action_of usual }
unfolded whole (Whole place) = get_or whole place no_step

-- one that is kept as it is stands among so many
abbrev pub IsIn : ℕ → Kept → Type 0
IsIn n (Brief line usual) = ⊤
IsIn n (Whole place) = place < n

abbrev pub AreIn : ℕ → List Kept → Type 0
AreIn n [] = ⊤
AreIn n (one ∷ kept) = IsIn n one × AreIn n kept

-- the threads that a step runs in every interleaving, if it does
abbrev pub together_of : Action → Option (List Bool)
together_of (Together threads worlds) = Some threads
together_of action = None

-- a step is of a kind
abbrev pub is_of : Kind → Step → Bool
is_of Verdict step = is_of_verdict step.action
is_of Audit step = expects_audit step.action
is_of TogetherKind step = is_some (together_of step.action)
