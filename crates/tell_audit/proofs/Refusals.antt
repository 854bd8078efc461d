-- Each refusal of an event that is no step has a reason, and nothing else has one.
use Rattle.std.proofs.Common.{◌≡◌, ℕ, Option, None, Some, Bool, true, false, refl}
use Rattle.std.specs.Prelude.{◌↔◌, ◌&&◌, not, IsSome, nat_lt, slice_get, if◌then◌else◌}
use Rattle.model.specs.declared.event.Reply.TheVariants.{Refused}
use Rattle.model.specs.declared.set.Device.{Device}
use Rattle.model.specs.declared.status.Major.{Major}
use Rattle.model.specs.declared.world.Irql.{Irql}
use Rattle.model.specs.declared.world.Packet.{Packet}
use Rattle.model.specs.declared.world.Thread.{Thread}
use Rattle.model.specs.declared.event.Reply.TheVariants.{Idle}
use Rattle.model.specs.Events.{can_issue, cancel_of, cancel_on, dpc_begun, dpc_on, interrupt_on, interrupted, irql_of, is_idle, issue_on, issued, startio_for, startio_from, startio_on, unchanged}
use Rattle.model.specs.Queues.{StartState, head_of}
use Rattle.model.specs.Set.{Set, dpc_of, startio_of}
use Rattle.model.specs.World.{World, is_queued, packet_of, start_of}
use Rattle.tell_audit.specs.declared.refusal.Reason.TheVariants.{NotIdle, NoRoom, NotIssued}
use Rattle.tell_audit.specs.Laws.{RefusalsHaveReasons}
use Rattle.tell_audit.specs.Refusal.{why_no_cancel, why_no_dpc, why_no_interrupt, why_no_issue, why_no_start, why_no_startio}

-- requests
issue_tests : (set : Set) (w : World) (t d : ℕ) (major : Major) (argument : ℕ) (thread : Thread)
    (device : Device) (i c : Bool)
    → ((if i && c then issued set w t d thread device major argument
    else unchanged w Refused).reply ≡ Refused)
    ↔ IsSome (if not i then Some NotIdle else (if c then None else Some NoRoom))
issue_tests set w t d major argument thread device true true = (λ h. cc, λ h. cc)
issue_tests set w t d major argument thread device true false = (λ h. refl, λ h. refl)
issue_tests set w t d major argument thread device false c = (λ h. refl, λ h. refl)

issue_reason : (set : Set) (w : World) (t d : ℕ) (major : Major) (argument : ℕ)
    (thread : Option Thread) (device : Option Device)
    → ((issue_on set w t d major argument thread device).reply ≡ Refused)
    ↔ IsSome (why_no_issue w thread device)
issue_reason set w t d major argument None device = (λ h. refl, λ h. refl)
issue_reason set w t d major argument (Some thread) None = (λ h. refl, λ h. refl)
issue_reason set w t d major argument (Some thread) (Some device) =
    issue_tests set w t d major argument thread device (is_idle thread) (can_issue w.shared)

-- cancels
cancel_goes : (w : World) (t n : ℕ) (level : Irql) (thread : Thread) (o : Option Packet)
    → ((cancel_of w t n level thread o).reply ≡ Refused) ↔ (false ≡ true)
cancel_goes w t n level thread None = (λ h. cc, λ h. cc)
cancel_goes w t n level thread (Some p) = (λ h. cc, λ h. cc)

cancel_tests : (w : World) (t n : ℕ) (level : Irql) (thread : Thread) (i c : Bool)
    → ((if i && c then cancel_of w t n level thread (packet_of w.shared n)
    else unchanged w Refused).reply ≡ Refused)
    ↔ IsSome (if not i then Some NotIdle else (if c then None else Some NotIssued))
cancel_tests w t n level thread true true =
    cancel_goes w t n level thread (packet_of w.shared n)
cancel_tests w t n level thread true false = (λ h. refl, λ h. refl)
cancel_tests w t n level thread false c = (λ h. refl, λ h. refl)

cancel_reason : (w : World) (t n : ℕ) (level : Option Irql) (thread : Option Thread)
    → ((cancel_on w t n level thread).reply ≡ Refused) ↔ IsSome (why_no_cancel w n level thread)
cancel_reason w t n level None = (λ h. refl, λ h. refl)
cancel_reason w t n None (Some thread) = (λ h. refl, λ h. refl)
cancel_reason w t n (Some level) (Some thread) =
    cancel_tests w t n level thread (is_idle thread) (nat_lt n w.shared.issued)

-- interrupts
interrupt_tests : (w : World) (d : ℕ) (b : Bool)
    → ((if b then unchanged w Idle else interrupted w d).reply ≡ Refused) ↔ (false ≡ true)
interrupt_tests w d true = (λ h. cc, λ h. cc)
interrupt_tests w d false = (λ h. cc, λ h. cc)

interrupt_reason : (w : World) (d : ℕ) (dpc : Option ℕ)
    → ((interrupt_on w d dpc).reply ≡ Refused) ↔ IsSome (why_no_interrupt dpc)
interrupt_reason w d None = (λ h. refl, λ h. refl)
interrupt_reason w d (Some routine) = interrupt_tests w d (is_queued w.shared d)

-- DPC routines
dpc_tests : (set : Set) (w : World) (t d : ℕ) (thread : Thread) (routine : ℕ) (i q : Bool)
    → ((if not i then unchanged w Refused else
    (if q then dpc_begun set w t d thread routine else unchanged w Idle)).reply ≡ Refused)
    ↔ IsSome (if i then None else Some NotIdle)
dpc_tests set w t d thread routine true true = (λ h. cc, λ h. cc)
dpc_tests set w t d thread routine true false = (λ h. cc, λ h. cc)
dpc_tests set w t d thread routine false q = (λ h. refl, λ h. refl)

dpc_reason : (set : Set) (w : World) (t d : ℕ) (thread : Option Thread) (routine : Option ℕ)
    → ((dpc_on set w t d thread routine).reply ≡ Refused) ↔ IsSome (why_no_dpc thread routine)
dpc_reason set w t d None routine = (λ h. refl, λ h. refl)
dpc_reason set w t d (Some thread) None = (λ h. refl, λ h. refl)
dpc_reason set w t d (Some thread) (Some routine) =
    dpc_tests set w t d thread routine (is_idle thread) (is_queued w.shared d)

-- StartIo routines
start_goes : (set : Set) (w : World) (t d : ℕ) (thread : Thread) (routine : ℕ) (start : StartState)
    (first : Option ℕ)
    → ((startio_for set w t d thread routine start first).reply ≡ Refused) ↔ (false ≡ true)
start_goes set w t d thread routine start None = (λ h. cc, λ h. cc)
start_goes set w t d thread routine start (Some n) = (λ h. cc, λ h. cc)

start_reason : (set : Set) (w : World) (t d : ℕ) (thread : Thread) (routine : ℕ)
    (start : Option StartState)
    → ((startio_from set w t d thread routine start).reply ≡ Refused)
    ↔ IsSome (why_no_start start)
start_reason set w t d thread routine None = (λ h. refl, λ h. refl)
start_reason set w t d thread routine (Some start) =
    start_goes set w t d thread routine start (head_of start.start_list)

startio_tests : (set : Set) (w : World) (t d : ℕ) (thread : Thread) (routine : ℕ) (i : Bool)
    → ((if i then startio_from set w t d thread routine (start_of w.shared d)
    else unchanged w Refused).reply ≡ Refused)
    ↔ IsSome (if i then why_no_start (start_of w.shared d) else Some NotIdle)
startio_tests set w t d thread routine true =
    start_reason set w t d thread routine (start_of w.shared d)
startio_tests set w t d thread routine false = (λ h. refl, λ h. refl)

startio_reason : (set : Set) (w : World) (t d : ℕ) (thread : Option Thread) (routine : Option ℕ)
    → ((startio_on set w t d thread routine).reply ≡ Refused)
    ↔ IsSome (why_no_startio w.shared d thread routine)
startio_reason set w t d None routine = (λ h. refl, λ h. refl)
startio_reason set w t d (Some thread) None = (λ h. refl, λ h. refl)
startio_reason set w t d (Some thread) (Some routine) =
    startio_tests set w t d thread routine (is_idle thread)

pub reasons : RefusalsHaveReasons
reasons =
    record {
      requests = λ set w t d major argument.
          issue_reason set w t d major argument (slice_get w.threads t) (slice_get set.devices d);
      cancels = λ set w t n level.
          cancel_reason w t n (irql_of level) (slice_get w.threads t);
      interrupts = λ set w d. interrupt_reason w d (dpc_of set d);
      dpcs = λ set w t d. dpc_reason set w t d (slice_get w.threads t) (dpc_of set d);
      startios = λ set w t d.
          startio_reason set w t d (slice_get w.threads t) (startio_of set d);
    }
