-- What is read before workers serve a script, and what is told of it then.
use Rattle.std.specs.Prelude.{ℕ, ⊤, ◌≡◌, ◌≢◌, ◌++◌, ◌⊎◌, List, [], Option, None, Some, Result, Ok, Err}
use Rattle.model.specs.Set.{Set}
use Rattle.model.specs.Typable.{IsTypable}
use Rattle.verifier_warnings.specs.Warnings.{AreWarnings}
use Rattle.drvhost_devices.specs.declared.fault.End.{End}
use Rattle.drvhost_devices.specs.declared.fault.End.TheVariants.{Stopped}
use Rattle.drvhost_devices.specs.declared.fault.Fault.{Fault}
use Rattle.drvhost_devices.specs.Device.{Says, Supply}
use Rattle.drvhost_devices.specs.Ends.{HoldsSet}
use Rattle.drvhost_devices.specs.Fault.{Goes, ReadsScript, ReadsSet}
use Rattle.answer_runs.specs.declared.page.Page.{Page}
use Rattle.answer_runs.specs.declared.ready.Ready.{Ready}
use Rattle.answer_runs.specs.Hosting.{IsBlank}
use Rattle.answer_runs.specs.Served.{IsUnhosted}

-- a set with the script that a source has, and its warnings
pub record IsReadyOf (set : Set) (script : Supply) (ready : Ready) : Type 0 where
  pub set_is : ready.accepted ≡ set
  pub commands : ReadsScript script (Ok ready.commands)
  pub warnings : AreWarnings set ready.warnings.items

-- nothing is served: a job ends so for what its sources have, with the line that has gathered
abbrev pub IsUnserved : Supply → Supply → List ℕ → Result End Fault → Type 0
IsUnserved set script lines end =
    (before : Option (List ℕ)) → Goes (IsUnhosted set script) before before [] lines end

-- what sources have was read: an accepted set with a script, a set that is refused, or a fault
abbrev pub IsReady : Supply → Supply → Page → Result (Option Ready) Fault → Type 0
IsReady set script page (Ok (Some ready)) =
    ReadsSet set (Ok ready.accepted) × IsTypable ready.accepted
    × IsReadyOf ready.accepted script ready × IsBlank page
IsReady set script page (Ok None) =
    IsUnserved set script page.lines (Ok Stopped) × (page.words.items ≡ [])
IsReady set script page (Err fault) = IsUnserved set script page.lines (Err fault)

-- something is served
abbrev pub IsServing : Result (Option Ready) Fault → Type 0
IsServing (Ok (Some ready)) = ⊤
IsServing (Ok None) = ⊥
IsServing (Err fault) = ⊥

-- the warnings that are told of it
abbrev pub warnings_in : Result (Option Ready) Fault → List ℕ
warnings_in (Ok (Some ready)) = ready.warnings.items
warnings_in (Ok None) = []
warnings_in (Err fault) = []

-- the warnings of the accepted set that a source has; where a job doesn't succeed there may be none
abbrev pub AreWarningsOf : Supply → ℕ → List ℕ → Type 0
AreWarningsOf set status warnings =
    HoldsSet (λ (s : Set). IsTypable s × AreWarnings s warnings) set
    ⊎ ((warnings ≡ []) × (status ≢ 0))

-- warnings were told, and then this
abbrev pub SaysWarned : (List ℕ → Type 0) → ℕ → ℕ → Option (List ℕ) → Option (List ℕ) → List ℕ
    → Type 0
SaysWarned Warns failures_before failures_after before after told =
    (warnings : List ℕ) × Warns warnings
    × Says failures_before failures_after before after (warnings ++ told)
