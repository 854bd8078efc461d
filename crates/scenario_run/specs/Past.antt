-- What is kept of a run: its events, and what its replies told.
use Rattle.std.specs.Prelude.{ℕ, ◌≡◌, ◌≤◌, ◌++◌, List, [], ◌∷◌, length, replicate}
use Rattle.interleave.specs.declared.read.Repeated.{Repeated}
use Rattle.model.specs.declared.event.Event.{Event}
use Rattle.model.specs.declared.limits.TheConstants.{MAX_THREADS}
use Rattle.model.specs.History.{replies}
use Rattle.scenario_run.specs.declared.runner.Runner.{Runner}
use Rattle.scenario_run.specs.declared.told.Told.{Told}
use Rattle.scenario_run.specs.Running.{Runs}
use Rattle.scenario_run.specs.Told.{AreTold}

-- each event as often as it happened
abbrev pub events_of : List Repeated → List Event
events_of [] = []
events_of (r ∷ past) = replicate r.count r.event ++ events_of past

-- these are the events of a run that is shown, so many, and this is what its replies told
pub record IsPast (r : Runner) (threads count : ℕ) (past : List Repeated) (told : Told) : Type 0
  where
    pub some : 1 ≤ threads
    pub few : threads ≤ MAX_THREADS
    pub runs : Runs r threads (events_of past)
    pub counts : count ≡ length (events_of past)
    pub tells : AreTold told (replies r.machine.set threads (events_of past))
