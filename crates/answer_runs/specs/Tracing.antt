-- What `trace` answers in any form, and what it has read before it runs anything.
use Rattle.std.specs.Prelude.{ℕ, ⊤, ◌≡◌, List, Result, Ok, Err}
use Rattle.interleave.specs.declared.schedule.Schedule.{Schedule}
use Rattle.interleave.specs.declared.schedule.ScheduleFault.{ScheduleFault}
use Rattle.interleave.specs.Listing.{IsWithinLimits, schedule_in}
use Rattle.model.specs.Run.{begun}
use Rattle.model.specs.Set.{Set}
use Rattle.drvhost_devices.specs.Answer.{Answer, shown_replies}
use Rattle.drvhost_devices.specs.Device.{Holds, Supply}
use Rattle.answer.specs.Run.{set_chosen}
use Rattle.answer_runs.specs.declared.run_form.RunForm as run_form
use Rattle.answer_runs.specs.declared.trace.Ready.{Ready}
use Rattle.answer_runs.specs.declared.trace.Ready.TheVariants.{Runs, Kept}

-- the run of a set by a schedule
abbrev pub IsRunBy : {F : Type 0} → run_form.Ghosts F → F → Schedule → Set → Answer → Type 0
IsRunBy tells it schedule set answer =
    tells.is_run it (shown_replies set (begun set schedule.threads) schedule.events) answer

-- that, or the fault of the schedule, which is the file of a name
abbrev pub IsTraced : {F : Type 0} → run_form.Ghosts F → F → List ℕ
    → Result Schedule ScheduleFault → Set → Answer → Type 0
IsTraced tells it name (Ok schedule) set answer = IsRunBy tells it schedule set answer
IsTraced tells it name (Err fault) set answer = tells.is_schedule_fault it name fault answer

-- the same by the schedule that the text of that file lists, whatever bytes the set was read from
abbrev pub IsTracedBy : {F : Type 0} → run_form.Ghosts F → F → List ℕ → List ℕ → Set → List ℕ
    → Answer → Type 0
IsTracedBy tells it name bytes set text answer = IsTraced tells it name (schedule_in text) set answer

-- by the one that a source has
abbrev pub IsTracedOf : {F : Type 0} → run_form.Ghosts F → F → List ℕ → Supply → Set → Answer
    → Type 0
IsTracedOf tells it name supply set answer =
    (text : List ℕ) × Holds supply text × IsTraced tells it name (schedule_in text) set answer

-- the right answers for what is ready: those for the run of this set by this schedule, or the one
-- that there is where none is run
abbrev pub IsOfReady : {F : Type 0} → run_form.Ghosts F → F → Ready → Answer → Type 0
IsOfReady tells it (Runs chosen schedule) answer =
    IsRunBy tells it schedule (set_chosen chosen) answer
IsOfReady tells it (Kept told) answer = answer ≡ told

-- those are among these
abbrev pub IsReadyFor : {F : Type 0} → run_form.Ghosts F → F → (Answer → Type 0) → Ready → Type 0
IsReadyFor tells it Right ready =
    (answer : Answer) → IsOfReady tells it ready answer → Right answer

-- a schedule that is run keeps within the limits of one
abbrev pub IsWithin : Ready → Type 0
IsWithin (Runs chosen schedule) = IsWithinLimits schedule
IsWithin (Kept told) = ⊤
