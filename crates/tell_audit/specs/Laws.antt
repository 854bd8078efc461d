-- Laws of the audit.
use Rattle.std.specs.Prelude.{ℕ, ◌≡◌, ◌↔◌, List, [], length, IsSome}
use Rattle.model.specs.declared.event.Event.{Event}
use Rattle.model.specs.declared.event.Event.TheVariants.{Issue, Cancel as CancelEvent, Interrupt, Dpc as DpcEvent, StartIo as StartIoEvent}
use Rattle.model.specs.declared.event.Reply.TheVariants.{Refused}
use Rattle.model.specs.declared.status.Major.{Major}
use Rattle.model.specs.Events.{effect}
use Rattle.model.specs.Run.{run}
use Rattle.model.specs.Set.{Set}
use Rattle.model.specs.Sound.{IsSound}
use Rattle.model.specs.Typable.{IsTypable}
use Rattle.model.specs.World.{World}
use Rattle.laws_runs.specs.Order.{HasLockOrders}
use Rattle.tell_audit.specs.Findings.{ringed_threads}
use Rattle.tell_audit.specs.Left.{left_locks}
use Rattle.tell_audit.specs.Naming.{lost_packets}
use Rattle.tell_audit.specs.Refusal.{why_refused}

-- no run of an accepted set loses a packet: each that lives is named by a place
abbrev pub AcceptedRunsLoseNoPacket : Type 0
AcceptedRunsLoseNoPacket =
    (set : Set) → IsTypable set → IsSound set → (threads : ℕ) (events : List Event)
    → lost_packets (run set threads events).world ≡ []

-- nor leaves a lock behind: no idle thread owns one
abbrev pub AcceptedRunsLeaveNoLock : Type 0
AcceptedRunsLeaveNoLock =
    (set : Set) → IsTypable set → IsSound set → (threads : ℕ) (events : List Event)
    → left_locks (run set threads events).world (length set.devices) ≡ []

-- nor has threads that wait in a ring, where each driver takes its locks in an order
abbrev pub AcceptedRunsHaveNoRing : Type 0
AcceptedRunsHaveNoRing =
    (set : Set) → IsTypable set → IsSound set → HasLockOrders set
    → (threads : ℕ) (events : List Event)
    → ringed_threads set (run set threads events).world ≡ []

-- an event is refused exactly where there is a reason
abbrev pub HasReason : Set → World → Event → Type 0
HasReason set w e = ((effect set w e).reply ≡ Refused) ↔ IsSome (why_refused set w e)

pub record RefusalsHaveReasons : Type 0 where
  pub requests : (set : Set) (w : World) (t d : ℕ) (major : Major) (argument : ℕ)
      → HasReason set w (Issue t d major argument)
  pub cancels : (set : Set) (w : World) (t n level : ℕ)
      → HasReason set w (CancelEvent t n level)
  pub interrupts : (set : Set) (w : World) (d : ℕ) → HasReason set w (Interrupt d)
  pub dpcs : (set : Set) (w : World) (t d : ℕ) → HasReason set w (DpcEvent t d)
  pub startios : (set : Set) (w : World) (t d : ℕ) → HasReason set w (StartIoEvent t d)
