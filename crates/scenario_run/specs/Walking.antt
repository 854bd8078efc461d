-- Steps that a thread makes one after another, on a machine with the ledger of its run.
use Rattle.std.specs.Prelude.{ℕ, ◌≡◌, ◌+◌, ◌≤◌, ◌++◌, Bool, true, false, List, [], ◌∷◌, length, replicate, Option, None, Some, option_map}
use Rattle.model.specs.declared.event.Event.{Event}
use Rattle.model.specs.declared.event.Event.TheVariants.{Step}
use Rattle.model.specs.declared.event.Reply.{Reply}
use Rattle.model.specs.declared.event.Reply.TheVariants.{Started, Stepped, Finished, Topped, Waited, Idle, Refused, Bug, Wrong}
use Rattle.model.specs.History.{replies}
use Rattle.scenario_run.specs.declared.runner.Runner.{Runner}
use Rattle.scenario_run.specs.declared.walking.Walked.{Walked}
use Rattle.scenario_run.specs.Going.{Gone, with_steps}
use Rattle.scenario_run.specs.Playing.{Playing, outcome_of}
use Rattle.scenario_run.specs.Running.{Runs}
use Rattle.scenario_world.specs.declared.until.Until.{Until}

-- whether a reply tells that the thread stepped
abbrev pub is_stepped : Reply → Bool
is_stepped Stepped = true
is_stepped (Started packet) = false
is_stepped Finished = false
is_stepped (Topped packet status info) = false
is_stepped Waited = false
is_stepped Idle = false
is_stepped Refused = false
is_stepped (Bug bug) = false
is_stepped (Wrong place) = false

-- how many steps there are, with the one behind those that only stepped, and what all replied
abbrev pub counted : ℕ → Option Reply → ℕ
counted made None = made
counted made (Some reply) = made + 1

abbrev pub replied : ℕ → Option Reply → List Reply
replied made None = replicate made Stepped
replied made (Some reply) = replicate made Stepped ++ reply ∷ []

abbrev pub steps_in : Walked → ℕ
steps_in w = counted w.made w.last

-- whatever run is shown before them, the run with them is shown behind, which replied so; and so
-- they go in a scenario with room for them
pub record WalksOn (until : Until) (t : ℕ) (before : Runner) (w : Walked) (after : Runner)
    : Type 0 where
  pub set : after.machine.set ≡ before.machine.set
  pub runs : (threads : ℕ) (events : List Event) → Runs before threads events
      → Runs after threads (events ++ replicate (steps_in w) (Step t))
  pub replies : (threads : ℕ) (events : List Event) → Runs before threads events
      → replies before.machine.set threads (events ++ replicate (steps_in w) (Step t))
      ≡ replies before.machine.set threads events ++ replied w.made w.last
  pub goes : (p : Playing) → p.set ≡ before.machine.set → Runs before p.threads p.events
      → length p.events + steps_in w ≤ 1000000
      → Gone until t p w.made (option_map outcome_of w.last) (with_steps p t (steps_in w))
