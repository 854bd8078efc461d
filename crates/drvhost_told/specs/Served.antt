-- What `host` answers in JSON: an object for each command of a script, and one for their history.
use Rattle.std.specs.Prelude.{ℕ, ◌≡◌, ◌+◌, ◌++◌, List, [], ◌∷◌, Option, Result, Ok, Err, length}
use Rattle.std.specs.Global.{Vec}
use Rattle.interleave.specs.declared.schedule.ScheduleFault.{ScheduleFault}
use Rattle.interleave_texts.specs.Script.{script_in}
use Rattle.model.specs.declared.event.Reply.{Reply}
use Rattle.model.specs.declared.history.Command.{Command}
use Rattle.model.specs.Set.{Set}
use Rattle.report_json.specs.declared.fault.InputFault.TheVariants as input
use Rattle.report_json.specs.Line.{json_line}
use Rattle.report_json.specs.Served.{command_json, history_json}
use Rattle.workers_script.specs.declared.hosted.Hosted.{Hosted}
use Rattle.workers_script.specs.Told.{Hosts, all_told}
use Rattle.drvhost_devices.specs.Answer.{Answer, ended}
use Rattle.drvhost_devices.specs.Device.{Holds, Supply}
use Rattle.drvhost_devices.specs.declared.verification.Verification.TheVariants.{Required}
use Rattle.answer.specs.Told.{IsToldOf, fault_answer}
use Rattle.answer_runs.specs.InJson.{IsJudgedJson}
use Rattle.answer_runs.specs.Served.{ringed_after, served_end}

-- a line for each command, the first of which has this number, with what is told of it
abbrev pub command_objects : ℕ → List (Option Reply) → List ℕ
command_objects n [] = []
command_objects n (its ∷ rest) = json_line (command_json n its) ++ command_objects (n + 1) rest

-- what is answered of commands that were served: a line for each, and one for their history
abbrev pub served_objects : List (Option Reply) → ℕ → List ℕ → Answer
served_objects all entries ringed =
    ended (served_end all entries ringed)
    (command_objects 0 all ++ json_line (history_json entries ringed))

-- what `host` answers for a set that is accepted, with so many workers, and these commands: what
-- the history of their core tells
pub record IsServedInJson (workers : ℕ) (commands : List Command) (set : Set) (answer : Answer)
    : Type 0 where
  pub hosted : Hosted
  pub hosts : Hosts set workers commands hosted
  pub is : answer
      ≡ served_objects (all_told hosted.core.history (length commands))
      (length hosted.core.history) (ringed_after set workers hosted.core.history)

-- for what its script, which is the file of a name, says: that, or the fault of the script
abbrev pub IsServedJson : ℕ → List ℕ → Result (List Command) ScheduleFault → Set → Answer → Type 0
IsServedJson workers name (Ok commands) set answer = IsServedInJson workers commands set answer
IsServedJson workers name (Err fault) set answer = answer ≡ fault_answer name (input.Script fault)

-- a source has the text of these commands, or one that has this fault
abbrev pub ReadsCommands : Supply → Result (Vec Command) ScheduleFault → Type 0
ReadsCommands supply (Ok commands) =
    (text : List ℕ) × Holds supply text × (script_in text ≡ Ok commands.items)
ReadsCommands supply (Err fault) =
    (text : List ℕ) × Holds supply text × (script_in text ≡ Err fault)

-- by the script that a source has
abbrev pub IsServedJsonOf : ℕ → List ℕ → Supply → Set → Answer → Type 0
IsServedJsonOf workers name supply set answer =
    (script : List ℕ) × Holds supply script
    × IsServedJson workers name (script_in script) set answer

-- what is right for a set, by the names of its file and of the script's
abbrev pub IsHostJson : ℕ → List ℕ → List ℕ → Supply → Set → Answer → Type 0
IsHostJson workers set_name script_name script set answer =
    IsJudgedJson Required set_name (IsServedJsonOf workers script_name script) set answer

-- what `host` answers in JSON for what its sources have that are the files of these names: it reads
-- the script's for an accepted set alone
abbrev pub IsHostJsonOf : ℕ → List ℕ → List ℕ → Supply → Supply → Answer → Type 0
IsHostJsonOf workers set_name script_name set script answer =
    IsToldOf (λ bytes. IsHostJson workers set_name script_name script) set_name set answer
