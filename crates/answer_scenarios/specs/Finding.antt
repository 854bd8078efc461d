-- The scenario of a run that was found: it makes the run's events happen, and fails at its last
-- step, which expects that nothing is amiss.
use Rattle.std.specs.Prelude.{ℕ, ◌≡◌, ◌++◌, List, [], ◌∷◌, false, None, Some, Ok}
use Rattle.interleave.specs.declared.schedule.Schedule.{Schedule}
use Rattle.interleave.specs.Listing.{Lists}
use Rattle.model.specs.declared.event.Event.{Event}
use Rattle.model.specs.Set.{Set}
use Rattle.scenario_run.specs.Acting.{played}
use Rattle.scenario_run.specs.Holding.{holds}
use Rattle.scenario_run.specs.Playing.{Playing}
use Rattle.scenario_steps.specs.declared.scenario.Action.TheVariants.{Expect}
use Rattle.scenario_expected.specs.declared.expectation.Expectation.TheVariants.{Clean}
use Rattle.scenario_steps.specs.declared.scenario.Step.{Step}
use Rattle.scenario_text.specs.Listing.{Listed, scenario_in}
use Rattle.scenario_names.specs.Names.{Named}
use Rattle.answer_scenarios.specs.Scenarios.{play_of}

-- a step expects that nothing is amiss, and something is
pub record IsAmiss (p : Playing) (step : Step) : Type 0 where
  pub expects : step.action ≡ Expect Clean
  pub must : step.may ≡ false
  pub fails : holds p Clean ≡ false

-- steps make these events happen, none of them failing, and behind them a step expects that nothing
-- is amiss where something is
pub record ComesAmiss (p : Playing) (steps : List Step) (events : List Event) (last : Step) : Type 0
  where
    pub now : Playing
    pub plays : played p steps ≡ record { now = now; failed = None }
    pub happens : now.events ≡ events
    pub amiss : IsAmiss now last

-- a scenario on so many threads makes these events happen, and fails at its last step, which
-- expects that nothing is amiss
pub record FailsAtLast (set : Set) (threads : ℕ) (events : List Event) (scenario : Listed) : Type 0
  where
    pub before : List Step
    pub last : Step
    pub threads_are : scenario.threads ≡ threads
    pub steps : scenario.steps ≡ before ++ last ∷ []
    pub expects : last.action ≡ Expect Clean
    pub fails : (play_of set scenario).failed ≡ Some last
    pub happens : (play_of set scenario).now.events ≡ events

-- a text lists such a scenario
abbrev pub FailsFor : Named → Set → ℕ → List Event → List ℕ → Type 0
FailsFor names set threads events text =
    (scenario : Listed) × (scenario_in names text ≡ Ok scenario)
    × FailsAtLast set threads events scenario

-- for the run by the schedule that another text lists
abbrev pub FailsFound : Named → Set → List ℕ → List ℕ → Type 0
FailsFound names set found text =
    (schedule : Schedule) × Lists found schedule
    × FailsFor names set schedule.threads schedule.events text
