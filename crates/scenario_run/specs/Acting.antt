-- What the steps of a scenario do, one after another.
use Rattle.std.specs.Prelude.{Bool, true, List, [], ◌∷◌, Option, None, Some, if◌then◌else◌}
use Rattle.model.specs.declared.event.Event.TheVariants as event
use Rattle.scenario_run.specs.declared.playing.Outcome.{Outcome}
use Rattle.scenario_run.specs.declared.playing.Outcome.TheVariants.{Done, Waits, Fails}
use Rattle.scenario_run.specs.Holding.{holds}
use Rattle.scenario_run.specs.Turns.{run_all}
use Rattle.scenario_run.specs.Playing.{Playing, Went, cancelled, issued, most_of, number_of, one, run_thread, running_to, stays, stepping}
use Rattle.scenario_world.specs.declared.until.Until.TheVariants.{At, Release}
use Rattle.scenario_steps.specs.declared.scenario.Action.{Action}
use Rattle.scenario_steps.specs.declared.scenario.Action.TheVariants.{Issue, Cancel, Interrupt, Dpc, StartIo, Steps, Run as RunAction, RunTo, RunToRelease, RunAll, Together, Expect}
use Rattle.scenario_steps.specs.declared.scenario.Step.{Step}

-- what is expected holds, or it fails
abbrev pub expected : Playing → Bool → Went
expected p holds = stays p (if holds then Done else Fails)

-- what a step does. What threads do in every interleaving is no one thing: here that fails
abbrev pub acted : Playing → Action → Went
acted p (Issue t d major argument) = issued p (event.Issue t d major argument)
acted p (Cancel t packet level) = cancelled p t level (number_of p packet)
acted p (Interrupt d) = one p (event.Interrupt d)
acted p (Dpc t d) = one p (event.Dpc t d)
acted p (StartIo t d) = one p (event.StartIo t d)
acted p (Steps t count) = stepping t count p
acted p (RunAction t) = run_thread t p
acted p (RunTo t spot) = running_to t (At spot) (most_of p) p
acted p (RunToRelease t lock) = running_to t (Release lock) (most_of p) p
acted p RunAll = run_all p
acted p (Together threads worlds) = stays p Fails
acted p (Expect expectation) = expected p (holds p expectation)

-- a step that goes so far lets the next one begin
abbrev pub passes : Bool → Outcome → Bool
passes may Done = true
passes may Waits = true
passes may Fails = may

-- how steps play, up to the first that fails: that one, if there is one
pub record Played : Type 0 where
  pub now : Playing
  pub failed : Option Step

abbrev pub played : Playing → List Step → Played
played p [] = record { now = p; failed = None }
played p (step ∷ steps) =
    let w = acted p step.action in
    if passes step.may w.outcome then played w.now steps
    else record { now = w.now; failed = Some step }
