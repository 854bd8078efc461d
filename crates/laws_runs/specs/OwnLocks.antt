-- The locks that a thread owns are those that the state of its top frame says.
use Rattle.std.specs.Prelude.{ℕ, ◌≡◌, ◌&&◌, Bool, true, false, List, Option, None, Some, nat_eq, slice_get}
use Rattle.model.specs.declared.abs.Abs.{Abs}
use Rattle.model.specs.declared.event.Event.{Event}
use Rattle.model.specs.declared.event.Lock.{Lock}
use Rattle.model.specs.declared.event.Lock.TheVariants.{SystemCancel, Spin}
use Rattle.model.specs.declared.world.Activation.{Activation}
use Rattle.model.specs.declared.world.CancelStep.{CancelStep}
use Rattle.model.specs.declared.world.CancelStep.TheVariants.{Acquire as AcquireStep, SetFlag, Exchange}
use Rattle.model.specs.declared.world.Frame.{Frame}
use Rattle.model.specs.declared.world.Frame.TheVariants.{Routine, Walk, Cancel as CancelFrame}
use Rattle.model.specs.Effect.{routine_of_device, top_of}
use Rattle.model.specs.Fault.{is_lock}
use Rattle.model.specs.LocalRule.{is_held}
use Rattle.model.specs.Run.{frames_on, run}
use Rattle.model.specs.Set.{Set}
use Rattle.model.specs.Sound.{IsSound}
use Rattle.model.specs.Typable.{IsTypable}
use Rattle.model.specs.World.{owner_of}
use Rattle.laws_runs.specs.ArrivingStates.{States, StatesArrive}

-- the locks that a state says, for a device: its spin locks and the system cancel spin lock
abbrev pub state_says : Abs → ℕ → Lock → Bool
state_says s d SystemCancel = s.cancel
state_says s d (Spin l) = nat_eq d l.device && is_held s l.number

-- those that IoCancelIrp has before a step: the system cancel spin lock, once it took it
abbrev pub cancelling_says : CancelStep → Lock → Bool
cancelling_says AcquireStep l = false
cancelling_says SetFlag l = is_lock SystemCancel l
cancelling_says Exchange l = is_lock SystemCancel l

-- those of a frame: a routine's by the state that arrives at its position; none of the I/O
-- manager's that completes a packet
abbrev pub frame_says : States → Frame → Lock → Bool
frame_says states (Routine a) l = state_says (states a.driver a.routine a.position) a.device l
frame_says states (Walk n) l = false
frame_says states (CancelFrame c) l = cancelling_says c.next l

abbrev pub said_by : States → Option Frame → Lock → Bool
said_by states None l = false
said_by states (Some f) l = frame_says states f l

-- a thread owns a lock exactly if the top one of its frames says it, so an idle thread owns none;
-- and every routine's frame, on top of its thread or below, is of the driver of its device
pub record OwnsWhatItsFrameSays (set : Set) (states : States) (threads : ℕ) (events : List Event)
    : Type 0 where
  pub owned : (t : ℕ) (l : Lock)
      → owner_of (run set threads events).world.shared.locks l ≡ Some (Some t)
      → said_by states (top_of (frames_on (run set threads events).world t)) l ≡ true
  pub said : (t : ℕ) (l : Lock)
      → said_by states (top_of (frames_on (run set threads events).world t)) l ≡ true
      → owner_of (run set threads events).world.shared.locks l ≡ Some (Some t)
  pub serves : (t k : ℕ) (a : Activation)
      → slice_get (frames_on (run set threads events).world t) k ≡ Some (Routine a)
      → routine_of_device (slice_get set.devices a.device) ≡ a.driver

abbrev pub ThreadsOwnWhatTheirFramesSay : Type 0
ThreadsOwnWhatTheirFramesSay =
    (set : Set) → IsTypable set → IsSound set
    → (states : States) × StatesArrive set states
    × ((threads : ℕ) (events : List Event) → OwnsWhatItsFrameSays set states threads events)
