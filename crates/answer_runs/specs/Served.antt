-- What `host` answers for the bytes of its files.
use Rattle.std.specs.Prelude.{ℕ, ◌≡◌, ◌↔◌, ◌+◌, ◌++◌, ◌&&◌, ◌||◌, Bool, List, [], ◌∷◌, is_some, length, nat_eq, None, Option, Some, Result, Ok, Err, if◌then◌else◌}
use Rattle.std.specs.List.{list_all}
use Rattle.workers_script.specs.declared.hosted.Hosted.{Hosted}
use Rattle.workers_script.specs.Told.{Hosts, all_told}
use Rattle.interleave.specs.declared.schedule.ScheduleFault.{ScheduleFault}
use Rattle.model.specs.declared.event.Reply.{Reply}
use Rattle.model.specs.declared.history.Command.{Command}
use Rattle.model.specs.declared.history.Entry.{Entry}
use Rattle.model.specs.declared.limits.TheConstants.{MAX_HISTORY}
use Rattle.model.specs.History.{world_after_all}
use Rattle.model.specs.Machine.{Machine}
use Rattle.model.specs.Set.{Set}
use Rattle.report.specs.Fault.{script_fault_line}
use Rattle.report.specs.Host.{agrees_line, left_line}
use Rattle.report.specs.Reply.{reply_line}
use Rattle.interleave_texts.specs.Script.{script_in}
use Rattle.drvhost_devices.specs.declared.fault.End.{End}
use Rattle.drvhost_devices.specs.declared.fault.End.TheVariants.{Complete, Stopped}
use Rattle.drvhost_devices.specs.Answer.{Answer, IsIfAccepted, end_status, faulty}
use Rattle.drvhost_devices.specs.Device.{Holds, Supply}
use Rattle.drvhost_devices.specs.Ends.{IsOfSupply}
use Rattle.tell_audit.specs.Findings.{ringed_threads}

-- the line of a command of a script: what is told of it, or that it was left
abbrev pub command_line : ℕ → Option Reply → List ℕ
command_line number None = left_line number
command_line number (Some reply) = reply_line number reply

-- a line for each command, the first of which has this number
abbrev pub command_lines : ℕ → List (Option Reply) → List ℕ
command_lines number [] = []
command_lines number (told ∷ rest) = command_line number told ++ command_lines (number + 1) rest

-- each command was performed, or the history has as many entries as it may have
abbrev pub are_served : List (Option Reply) → ℕ → Bool
are_served told entries = list_all is_some told || nat_eq entries MAX_HISTORY

-- how a job ends that has served commands: not well where these threads wait in a ring, or where a
-- command was left though the history had room
abbrev pub served_end : List (Option Reply) → ℕ → List ℕ → End
served_end told entries ringed =
    if nat_eq (length ringed) 0 && are_served told entries then Complete else Stopped

-- a ring is told exactly where there is one
abbrev pub TellsOfRing : List ℕ → List ℕ → Type 0
TellsOfRing ringed words = (ringed ≡ []) ↔ (words ≡ [])

-- what is answered of the commands of a script and their history, which agrees: what is told of each
-- command, of how many entries the history is, and of the threads that wait in a ring
abbrev pub served_as : List (Option Reply) → ℕ → List ℕ → List ℕ → Answer
served_as told entries ringed words = record {
  status = end_status (served_end told entries ringed);
  output = command_lines 0 told ++ agrees_line entries;
  told = words;
}

-- the threads that wait in a ring in what stands after a history
abbrev pub rings_in : Option Machine → List ℕ
rings_in None = []
rings_in (Some machine) = ringed_threads machine.set machine.world

-- the threads that wait for each other in a ring, after a history
abbrev pub ringed_after : Set → ℕ → List Entry → List ℕ
ringed_after set threads history = ringed_threads set (world_after_all set threads history)

-- what is answered of the commands of a script that so many workers served on an accepted set: what
-- the history of their core tells
pub record IsServedSo (workers : ℕ) (set : Set) (commands : List Command) (answer : Answer)
    : Type 0 where
  pub hosted : Hosted
  pub hosts : Hosts set workers commands hosted
  pub words : List ℕ
  pub tells : TellsOfRing (ringed_after set workers hosted.core.history) words
  pub is : answer
      ≡ served_as (all_told hosted.core.history (length commands))
      (length hosted.core.history) (ringed_after set workers hosted.core.history) words

-- what `host` answers for a set that is accepted, with so many workers, and its script: that, or the
-- fault of the script
abbrev pub IsServed : ℕ → Set → Result (List Command) ScheduleFault → Answer → Type 0
IsServed workers set (Ok commands) answer = IsServedSo workers set commands answer
IsServed workers set (Err fault) answer = answer ≡ faulty (script_fault_line fault)

-- what so many workers answer that serve the commands of the script that a source has
abbrev pub IsServedOf : ℕ → Supply → Set → Answer → Type 0
IsServedOf workers supply set answer =
    (script : List ℕ) × Holds supply script × IsServed workers set (script_in script) answer

-- what is answered for an accepted set where nothing is served: the fault of the script that a source
-- has
abbrev pub IsUnservedOf : Supply → Set → Answer → Type 0
IsUnservedOf supply set answer =
    (script : List ℕ) × Holds supply script
    × ((fault : ScheduleFault) × (script_in script ≡ Err fault)
    × (answer ≡ faulty (script_fault_line fault)))

-- and for what the sources have: that, or the refusal or the fault of the set
abbrev pub IsUnhosted : Supply → Supply → Answer → Type 0
IsUnhosted supply script answer = IsOfSupply (IsIfAccepted (IsUnservedOf script)) supply answer

-- what `host` answers for what its sources have: it reads the script's for an accepted set alone
abbrev pub IsHostOf : ℕ → Supply → Supply → Answer → Type 0
IsHostOf workers supply script answer =
    IsOfSupply (IsIfAccepted (IsServedOf workers script)) supply answer
