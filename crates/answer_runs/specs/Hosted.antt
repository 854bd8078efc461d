-- What was served of what sources have, before any line of it is written.
use Rattle.std.specs.Prelude.{ℕ, ⊤, ◌≡◌, ◌⊎◌, List, [], Option, None, Some, Result, Ok, Err}
use Rattle.std.specs.Global.{Vec}
use Rattle.model.specs.declared.history.Command.{Command}
use Rattle.model.specs.Set.{Set}
use Rattle.model.specs.Typable.{IsTypable}
use Rattle.workers_script.specs.declared.hosted.Hosted.{Hosted}
use Rattle.workers_script.specs.Told.{Hosts}
use Rattle.drvhost_devices.specs.declared.fault.End.TheVariants.{Stopped}
use Rattle.drvhost_devices.specs.declared.fault.Fault.{Fault}
use Rattle.drvhost_devices.specs.Device.{Supply}
use Rattle.drvhost_devices.specs.Fault.{ReadsScript, ReadsSet}
use Rattle.answer_runs.specs.declared.page.Page.{Page}
use Rattle.answer_runs.specs.Readiness.{IsUnserved}
use Rattle.answer_runs.specs.Served.{TellsOfRing, rings_in}

-- a page has what is told of the threads that wait in a ring in what stands after a history, and no
-- line
pub record IsNoted (page : Page) (hosted : Hosted) : Type 0 where
  pub lines : page.lines ≡ []
  pub ringed : page.ringed.items ≡ rings_in hosted.standing
  pub tells : TellsOfRing page.ringed.items page.words.items

-- so many workers have served the commands of the script that a source has, over the accepted set of
-- another one
pub record IsServedBy (workers : ℕ) (set script : Supply) (hosted : Hosted) : Type 0 where
  pub accepted : Set
  pub read : ReadsSet set (Ok accepted)
  pub typable : IsTypable accepted
  pub commands : Vec Command
  pub scripted : ReadsScript script (Ok commands)
  pub hosts : Hosts accepted workers commands.items hosted

-- what came of what the sources have: commands were served, or nothing was
abbrev pub IsHosted : ℕ → Supply → Supply → Page → Result (Option Hosted) Fault → Type 0
IsHosted workers set script page (Ok (Some hosted)) =
    IsServedBy workers set script hosted × IsNoted page hosted
IsHosted workers set script page (Ok None) =
    IsUnserved set script page.lines (Ok Stopped) × (page.words.items ≡ [])
IsHosted workers set script page (Err fault) = IsUnserved set script page.lines (Err fault)

-- commands were served
abbrev pub HasServed : Result (Option Hosted) Fault → Type 0
HasServed (Ok (Some hosted)) = ⊤
HasServed (Ok None) = ⊥
HasServed (Err fault) = ⊥
