-- What came of a script that was served.
use Rattle.std.proofs.Common.{◌≡◌, ◌∙◌, ℕ, List, Result, Ok, Err, inl, inr}
use Rattle.std.specs.Global.{Vec}
use Rattle.interleave.specs.declared.schedule.ScheduleFault.{ScheduleFault}
use Rattle.model.specs.declared.history.Command.{Command}
use Rattle.model.specs.Set.{Set}
use Rattle.report_json.specs.declared.fault.InputFault.TheVariants as input
use Rattle.workers_script.specs.declared.hosted.Hosted.{Hosted}
use Rattle.workers_script.specs.Told.{Hosts}
use Rattle.drvhost_devices.specs.declared.verification.Verification.TheVariants.{Required}
use Rattle.drvhost_devices.specs.Answer.{Answer}
use Rattle.drvhost_devices.specs.Device.{Supply}
use Rattle.answer.specs.contracts.as_json.JsonForm.TheImpl.{ghosts as json_form}
use Rattle.answer.specs.declared.as_json.Json.{Json}
use Rattle.answer.specs.Run.{IsKept}
use Rattle.answer.specs.Told.{IsToldOfFile, fault_answer}
use Rattle.answer_runs.proofs.Serving.{answered_there}
use Rattle.answer_runs.specs.Served.{rings_in}
use Rattle.drvhost_told.specs.Served.{IsHostJson, IsServedInJson, IsServedJsonOf, ReadsCommands, served_objects}

-- the answer of what was hosted is right
pub hosted_told : (set : Set) (workers : ℕ) (commands : List Command) (hosted : Hosted)
    → Hosts set workers commands hosted → (answer : Answer)
    → answer ≡ served_objects hosted.told.items hosted.entries (rings_in hosted.standing)
    → IsServedInJson workers commands set answer
hosted_told set workers commands hosted h answer is =
    record {
      hosted = hosted;
      hosts = h;
      is = is ∙ answered_there set workers commands hosted h served_objects;
    }

-- a script was read, and its commands were served, or it is faulty
module _ (workers : ℕ) (name : List ℕ) (set : Set) where
  abbrev Served : Result (Vec Command) ScheduleFault → Answer → Type 0
  Served read answer =
      (held : Supply) → ReadsCommands held read → IsServedJsonOf workers name held set answer

  pub served_well : (commands : Vec Command) (answer : Answer)
      → IsServedInJson workers commands.items set answer → Served (Ok commands) answer
  served_well commands answer right held (text, holds, says) = (text, holds, rw says right)

  pub served_faulty : (fault : ScheduleFault) (answer : Answer)
      → answer ≡ fault_answer name (input.Script fault) → Served (Err fault) answer
  served_faulty fault answer is held (text, holds, says) = (text, holds, rw says is)

-- what keeps a set from being served is told
pub kept_told : (it : Json) (workers : ℕ) (name other : List ℕ) (script : Supply)
    (bytes : List ℕ) (answer : Answer) → IsKept json_form it name Required bytes answer
    → IsToldOfFile (λ _. IsHostJson workers name other script) name bytes answer
kept_told it workers name other script bytes answer (inl (set, says, required, refused)) =
    (Ok set, says, inr refused)
kept_told it workers name other script bytes answer (inr (fault, says, is)) = (Err fault, says, is)
