-- Why a run refuses an event that is no step of a thread: what would have to be otherwise.
use Rattle.std.specs.Prelude.{ℕ, not, Option, None, Some, nat_lt, slice_get, if◌then◌else◌}
use Rattle.model.specs.declared.event.Event.{Event}
use Rattle.model.specs.declared.event.Event.TheVariants.{Issue, Cancel as CancelEvent, Interrupt, Dpc as DpcEvent, StartIo as StartIoEvent, Step}
use Rattle.model.specs.declared.set.Device.{Device}
use Rattle.model.specs.declared.world.Irql.{Irql}
use Rattle.model.specs.declared.world.Thread.{Thread}
use Rattle.model.specs.Events.{can_issue, irql_of, is_idle}
use Rattle.model.specs.Set.{Set, dpc_of, startio_of}
use Rattle.model.specs.World.{Shared, World, start_of}
use Rattle.model.specs.Queues.{StartState}
use Rattle.tell_audit.specs.declared.refusal.Reason.{Reason}
use Rattle.tell_audit.specs.declared.refusal.Reason.TheVariants.{NoThread, NotIdle, NoDevice, NoRoom, NoLevel, NotIssued, NoDpc, NoStartIo}

-- on a thread that has to be there and to be idle
abbrev pub why_not_idle : Thread → Option Reason
why_not_idle thread = if is_idle thread then None else Some NotIdle

abbrev pub why_no_issue : World → Option Thread → Option Device → Option Reason
why_no_issue w None device = Some NoThread
why_no_issue w (Some thread) None = Some NoDevice
why_no_issue w (Some thread) (Some device) =
    if not (is_idle thread) then Some NotIdle
    else (if can_issue w.shared then None else Some NoRoom)

abbrev pub why_no_cancel : World → ℕ → Option Irql → Option Thread → Option Reason
why_no_cancel w n level None = Some NoThread
why_no_cancel w n None (Some thread) = Some NoLevel
why_no_cancel w n (Some level) (Some thread) =
    if not (is_idle thread) then Some NotIdle
    else (if nat_lt n w.shared.issued then None else Some NotIssued)

abbrev pub why_no_interrupt : Option ℕ → Option Reason
why_no_interrupt None = Some NoDpc
why_no_interrupt (Some routine) = None

abbrev pub why_no_dpc : Option Thread → Option ℕ → Option Reason
why_no_dpc None routine = Some NoThread
why_no_dpc (Some thread) None = Some NoDpc
why_no_dpc (Some thread) (Some routine) = why_not_idle thread

abbrev pub why_no_start : Option StartState → Option Reason
why_no_start None = Some NoDevice
why_no_start (Some start) = None

abbrev pub why_no_startio : Shared → ℕ → Option Thread → Option ℕ → Option Reason
why_no_startio s d None routine = Some NoThread
why_no_startio s d (Some thread) None = Some NoStartIo
why_no_startio s d (Some thread) (Some routine) =
    if is_idle thread then why_no_start (start_of s d) else Some NotIdle

abbrev pub why_no_step : Option Thread → Option Reason
why_no_step None = Some NoThread
why_no_step (Some thread) = None

-- why an event can't happen; of a step that there is no such thread
abbrev pub why_refused : Set → World → Event → Option Reason
why_refused set w (Issue t d major argument) =
    why_no_issue w (slice_get w.threads t) (slice_get set.devices d)
why_refused set w (CancelEvent t n level) =
    why_no_cancel w n (irql_of level) (slice_get w.threads t)
why_refused set w (Interrupt d) = why_no_interrupt (dpc_of set d)
why_refused set w (DpcEvent t d) = why_no_dpc (slice_get w.threads t) (dpc_of set d)
why_refused set w (StartIoEvent t d) =
    why_no_startio w.shared d (slice_get w.threads t) (startio_of set d)
why_refused set w (Step t) = why_no_step (slice_get w.threads t)
