-- What is read before workers serve, that it goes rightly, and what is told of it.
use Rattle.std.proofs.Common.{◌≡◌, ◌∙◌, ◌≢◌, ◌⊎◌, ◌++◌, arith, ℕ, List, [], Option, None, Some, Result, Ok, Err, IfOk, IfErr, inl, inr, refl, subst, sym}
use Rattle.interleave.specs.declared.schedule.ScheduleFault.{ScheduleFault}
use Rattle.model.specs.declared.abs.Refusal.{Refusal}
use Rattle.model.specs.declared.abs.Rule.TheVariants as Rule
use Rattle.model.specs.declared.history.Command.{Command}
use Rattle.model.specs.Set.{Set}
use Rattle.model.specs.Typable.{IsFirstFault, IsTypable, at_start}
use Rattle.report.specs.Verdict.{refusal_line}
use Rattle.drvhost_devices.specs.declared.fault.End.{End}
use Rattle.drvhost_devices.specs.declared.fault.End.TheVariants.{Stopped}
use Rattle.drvhost_devices.specs.declared.fault.Fault.{Fault}
use Rattle.drvhost_devices.specs.declared.fault.Fault.TheVariants.{Read, Write, Memory, Text, Image, Schedule as OfSchedule, Script as OfScript}
use Rattle.drvhost_devices.specs.Answer.{Answer, IsIfAccepted, IsRefused}
use Rattle.drvhost_devices.specs.Device.{Says, Supply}
use Rattle.drvhost_devices.specs.Fault.{Goes, ReadsScript, ReadsSet, fault_status}
use Rattle.drvhost_devices.proofs.Doing.{goes_refused, goes_rightly, right_on, set_unread}
use Rattle.drvhost_devices.proofs.Writing.{keeps_same, writes_behind}
use Rattle.answer_runs.specs.declared.page.Page.{Page}
use Rattle.answer_runs.specs.declared.ready.Ready.{Ready}
use Rattle.workers_script.specs.declared.hosted.Hosted.{Hosted}
use Rattle.answer_runs.specs.Hosted.{IsServedBy}
use Rattle.answer_runs.specs.Readiness.{AreWarningsOf, IsReady, IsServing, IsUnserved, warnings_in}
use Rattle.answer_runs.specs.Served.{IsHostOf, IsServed, IsServedOf, IsUnhosted, IsUnservedOf}

-- the set can't be read
pub unserved_unread : (set script : Supply) (l : List ℕ) (fault : Fault) → ReadsSet set (Err fault)
    → IsUnserved set script l (Err fault)
unserved_unread set script l fault h b =
    set_unread (IsIfAccepted (IsUnservedOf script)) set b [] l fault h

-- what a set that was read answers, the sources answer
on_set : (set script : Supply) (s : Set) (b : Option (List ℕ)) (l : List ℕ)
    (end : Result End Fault) → ReadsSet set (Ok s)
    → Goes (IsIfAccepted (IsUnservedOf script) s) b b [] l end
    → Goes (IsUnhosted set script) b b [] l end
on_set set script s b l end read goes =
    goes_rightly (IsIfAccepted (IsUnservedOf script) s) (IsUnhosted set script) b b [] l end
    (right_on (IsIfAccepted (IsUnservedOf script)) set s read) goes

-- the set is refused, or there was no memory for a verdict
pub unserved_refused : (set script : Supply) (s : Set) (refusal : Refusal) (l : List ℕ)
    (end : Result End Fault) → ReadsSet set (Ok s)
    → (refusal ≡ at_start Rule.Memory) ⊎ IsFirstFault s refusal
    → IfOk end (λ e. (e ≡ Stopped) × (refusal.rule ≢ Rule.Memory) × (l ≡ refusal_line refusal))
    → IfErr end (λ fault. fault ≡ Memory)
    → IsUnserved set script l end
unserved_refused set script s refusal l end read first ended failed b =
    on_set set script s b l end read
    (goes_rightly (IsRefused s) (IsIfAccepted (IsUnservedOf script) s) b b [] l end
    (λ answer refused. inr refused)
    (goes_refused s refusal b l end first ended failed))

-- the script can't be read, or is faulty
script_unread : (s : Set) (script : Supply) (b : Option (List ℕ)) (l : List ℕ)
    (fault : Fault) → ReadsScript script (Err fault)
    → Goes (IsUnservedOf script s) b b [] l (Err fault)
script_unread s script b l Read h = keeps_same b
script_unread s script b l Write h = absurd h
script_unread s script b l Memory h = keeps_same b
script_unread s script b l (Text fault) h = absurd h
script_unread s script b l (Image fault) h = absurd h
script_unread s script b l (OfSchedule fault) h = absurd h
script_unread s script b l (OfScript fault) (text, holds, is) =
    ((text, holds, (fault, is, refl)), keeps_same b)

pub unserved_script : (set script : Supply) (s : Set) (l : List ℕ) (fault : Fault)
    → ReadsSet set (Ok s) → IsTypable s → ReadsScript script (Err fault)
    → IsUnserved set script l (Err fault)
unserved_script set script s l fault read typable faulted b =
    on_set set script s b l (Err fault) read
    (goes_rightly (IsUnservedOf script s) (IsIfAccepted (IsUnservedOf script) s) b b [] l
    (Err fault) (λ answer right. inl (typable, right))
    (script_unread s script b l fault faulted))

-- what is answered where nothing is served is right for `host`
pub unhosted_right : (set script : Supply) (workers : ℕ) (answer : Answer)
    → IsUnhosted set script answer → IsHostOf workers set script answer
unhosted_right set script workers answer (bytes, holds, (Ok s, says, inl (typable, right))) =
    let P : Result (List Command) ScheduleFault → Type 0 = λ r. IsServed workers s r answer in
    let found = right.2 in (
      bytes,
      holds,
      (Ok s, says, inl (typable, (right.0, right.1, subst P (sym found.1) found.2))),
    )
unhosted_right set script workers answer (bytes, holds, (Ok s, says, inr refused)) =
    (bytes, holds, (Ok s, says, inr refused))
unhosted_right set script workers answer (bytes, holds, (Err line, says, same)) =
    (bytes, holds, (Err line, says, same))

pub unserved_host : (set script : Supply) (workers : ℕ) (b : Option (List ℕ)) (l : List ℕ)
    (end : Result End Fault) → IsUnserved set script l end
    → Goes (IsHostOf workers set script) b b [] l end
unserved_host set script workers b l end goes =
    goes_rightly (IsUnhosted set script) (IsHostOf workers set script) b b [] l end
    (unhosted_right set script workers) (goes b)

-- what was served is right for the sources
pub served_host : (set script : Supply) (workers : ℕ) (hosted : Hosted)
    (by : IsServedBy workers set script hosted) (answer : Answer)
    → IsServed workers by.accepted (Ok by.commands.items) answer
    → IsHostOf workers set script answer
served_host set script workers hosted by answer right =
    let scripted = by.scripted in
    right_on (IsIfAccepted (IsServedOf workers script)) set by.accepted by.read answer
    (inl (
      by.typable,
      (
        scripted.0,
        scripted.1,
        subst (λ r. IsServed workers by.accepted r answer) (sym scripted.2) right,
      ),
    ))

-- a fault has a status of its own
pub fault_is_told : (fault : Fault) → fault_status fault ≢ 0
fault_is_told Memory e = cc
fault_is_told Read e = cc
fault_is_told Write e = cc
fault_is_told (Text fault) e = cc
fault_is_told (Image fault) e = cc
fault_is_told (OfSchedule fault) e = cc
fault_is_told (OfScript fault) e = cc

-- the warnings are those of the set
pub warnings_right : (set script : Supply) (page : Page) (ready : Result (Option Ready) Fault)
    (status : ℕ) → IsReady set script page ready → (status ≡ 0 → IsServing ready)
    → AreWarningsOf set status (warnings_in ready)
warnings_right set script page (Ok (Some ready)) status (read, typable, of, blank) serving =
    inl (read.0, read.1, (ready.accepted, read.2, (typable, of.warnings)))
warnings_right set script page (Ok None) status h serving = inr (refl, serving)
warnings_right set script page (Err fault) status h serving = inr (refl, serving)

-- there are none where memory ran out before anything else
pub warnings_none : (set : Supply) (status : ℕ) → status ≡ 3 → AreWarningsOf set status []
warnings_none set status is = inr (refl, λ zero. let no : 3 ≡ 0 = sym is ∙ zero in cc)

-- a text is said behind what was said since a writer had failed so often
pub says_on : (failures e f : ℕ) (b m n : Option (List ℕ)) (told text : List ℕ) → e ≡ failures
    → Says failures e b m told → Says e f m n text → Says failures f b n (told ++ text)
says_on failures e f b m n told text same (inl first) (inl second) =
    inl (second.0 ∙ same, writes_behind {T = ℕ} {E = ℕ} (Ok 0) b m n told text first.1 second.1)
says_on failures e f b m n told text same (inl first) (inr second) =
    inr (
      omega (arith, same, second.0),
      writes_behind {T = ℕ} {E = ℕ} (Err 0) b m n told text first.1 second.1,
    )
says_on failures e f b m n told text same (inr first) second =
    let no : ⊥ = omega (arith, same, first.0) in absurd no
