-- What is told of a scenario that is played: whether all that it expects holds, or its first line
-- that fails; and, as `schedule` answers it, the plain schedule of what it makes happen.
use Rattle.std.specs.Prelude.{ℕ, ◌≡◌, ◌⊎◌, ◌++◌, true, List, Option, None, Some, option_map, Result, Ok, Err, codes, decimal, if◌then◌else◌}
use Rattle.std.specs.List.{list_any}
use Rattle.drvhost_devices.specs.Answer.{Answer, IsOfFile, IsTraced, ended, faulty, is_image}
use Rattle.drvhost_devices.specs.declared.fault.End.{End}
use Rattle.drvhost_devices.specs.declared.fault.End.TheVariants.{Complete, Stopped}
use Rattle.drvhost_devices.specs.declared.verification.Verification.{Verification}
use Rattle.drvhost_devices.specs.Device.{Holds, Supply}
use Rattle.interleave.specs.declared.schedule.Schedule.{Schedule as OfSchedule}
use Rattle.interleave.specs.declared.schedule.ScheduleFault.{ScheduleFault}
use Rattle.interleave.specs.Listing.{Lists}
use Rattle.interleave_texts.specs.Listed.{IsUnlisted}
use Rattle.model.specs.declared.abs.Refusal.{Refusal}
use Rattle.model.specs.Set.{Set}
use Rattle.model.specs.Typable.{IsFirstFault, IsTypable}
use Rattle.report.specs.Fault.{schedule_fault_line}
use Rattle.scenario_run.specs.Acting.{Played, played}
use Rattle.scenario_run.specs.Playing.{Playing, begun}
use Rattle.scenario_together.specs.declared.play.Failure.{Failure}
use Rattle.scenario_together.specs.Plays.{PlaysTo}
use Rattle.scenario_steps.specs.declared.scenario.Scenario.{Scenario}
use Rattle.scenario_steps.specs.declared.scenario.Step.{Step}
use Rattle.scenario_steps.specs.Judging.{expects_verdict, judged}
use Rattle.scenario_text.specs.Listing.{Listed, scenario_in}
use Rattle.scenario_names.specs.Names.{Named, names_of, nothing}
use Rattle.answer_scenarios.specs.declared.telling.Asked.{Asked}
use Rattle.answer_scenarios.specs.declared.telling.Asked.TheVariants.{Schedule, Test}

-- what the bytes of a file name: an image names nothing
abbrev pub names_in : List ℕ → Named
names_in bytes = if is_image bytes then nothing else names_of bytes

-- how a scenario plays over a set
abbrev pub play_of : Set → Listed → Played
play_of set scenario = played (begun set scenario.threads) scenario.steps

-- what the verdict on a set finds: its first fault, or none
abbrev pub IsFound : Set → Option Refusal → Type 0
IsFound set None = IsTypable set
IsFound set (Some refusal) = IsFirstFault set refusal

-- and how it plays where its threads may run in every interleaving: to an end, or to a step that
-- fails in one of them; with what the verdict on the set found, where a step expects one
pub record PlaysJudged (p : Playing) (steps : List Step) (now : Playing) (failure : Option Failure)
    : Type 0 where
  pub found : Option Refusal
  pub verdict : list_any expects_verdict steps ≡ true → IsFound p.set found
  pub plays : PlaysTo p (judged found steps) now failure

pub record PlaysSo (set : Set) (scenario : Listed) (play : Played) : Type 0 where
  pub failure : Option Failure
  pub plays : PlaysJudged (begun set scenario.threads) scenario.steps play.now failure
  pub step : play.failed ≡ option_map (λ (f : Failure). f.step) failure

-- all holds in the scenario of a name
abbrev pub ok_line : List ℕ → List ℕ
ok_line name = codes "ok " ++ (name ++ codes "\n")

-- the step in the line of a number fails, with words on what is there instead
abbrev pub failure : List ℕ → ℕ → List ℕ → List ℕ
failure name line words =
    codes "failed "
    ++ (name ++ (codes " line " ++ (decimal line ++ (codes ":" ++ (words ++ codes "\n")))))

-- all holds, or the line of the first step that fails is told; which words stand behind its number
-- isn't said
abbrev pub IsOutcome : List ℕ → Option Step → Answer → Type 0
IsOutcome name None answer = answer ≡ ended Complete (ok_line name)
IsOutcome name (Some step) answer =
    (words : List ℕ) × (answer ≡ ended Stopped (failure name step.line words))

abbrev pub IsTested : List ℕ → Set → Listed → Answer → Type 0
IsTested name set scenario answer =
    (play : Played) × PlaysSo set scenario play × IsOutcome name play.failed answer

-- a job on a scenario that came to its end, or to a step that fails
abbrev pub end_of : Option Step → End
end_of None = Complete
end_of (Some step) = Stopped

-- what has happened, up to the first step that fails, as a schedule
abbrev pub schedule_of : Playing → OfSchedule
schedule_of p = record { threads = p.threads; events = p.events }

-- a text that lists it; or, where the text of that schedule, read back, is another one, a line that
-- says so. Each event has a line in a schedule, so no play is known of which that is told
abbrev pub unlisted_line : List ℕ
unlisted_line = codes "; the schedule, read back, is another one\n"

abbrev pub IsScheduleTold : Playing → Option Step → Answer → Type 0
IsScheduleTold p failed answer =
    ((text : List ℕ) × Lists text (schedule_of p) × (answer ≡ ended (end_of failed) text))
    ⊎ (IsUnlisted (schedule_of p) × (answer ≡ ended Stopped unlisted_line))

-- what is right for what is asked of a scenario that has played so
abbrev pub right_of_play : Asked → Played → Answer → Type 0
right_of_play (Test name) play answer = IsOutcome name.now play.failed answer
right_of_play Schedule play answer = IsScheduleTold play.now play.failed answer

abbrev pub right_of : Asked → Set → Listed → Answer → Type 0
right_of asked set scenario answer =
    (play : Played) × PlaysSo set scenario play × right_of_play asked play answer

-- what a scenario that was read lists
abbrev pub listed : Scenario → Listed
listed scenario = record { threads = scenario.threads; steps = scenario.steps }

-- what is right for the scenario that a text lists, or its first fault
abbrev pub IsOfScenario : (Set → Listed → Answer → Type 0) → Set → Result Listed ScheduleFault
    → Answer → Type 0
IsOfScenario Right set (Ok scenario) answer = Right set scenario answer
IsOfScenario Right set (Err fault) answer = answer ≡ faulty (schedule_fault_line fault)

-- for the scenario that a source has, with the names of a set's file
abbrev pub IsPlayedOf : (Set → Listed → Answer → Type 0) → List ℕ → Supply → Set → Answer → Type 0
IsPlayedOf Right bytes supply set answer =
    (text : List ℕ) × Holds supply text
    × IsOfScenario Right set (scenario_in (names_in bytes) text) answer

-- for what both sources have: it reads the scenario's for a run alone
abbrev pub IsOfSources : (Set → Listed → Answer → Type 0) → Verification → Supply → Supply
    → Answer → Type 0
IsOfSources Right verification supply scenario answer =
    (bytes : List ℕ) × Holds supply bytes
    × IsOfFile (IsTraced verification (IsPlayedOf Right bytes scenario)) bytes answer

-- what `schedule` answers for what its sources have
abbrev pub IsScheduleOf : Verification → Supply → Supply → Answer → Type 0
IsScheduleOf verification supply scenario answer =
    IsOfSources (right_of Schedule) verification supply scenario answer
