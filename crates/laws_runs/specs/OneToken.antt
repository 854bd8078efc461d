-- The token of a busy device: who has it has to see that the device goes on to its next packet.
use Rattle.std.specs.Prelude.{ℕ, ◌≡◌, ◌+◌, ◌&&◌, false, List, [], length, Option, None, Some, nat_eq, if◌then◌else◌}
use Rattle.model.specs.declared.event.Event.{Event}
use Rattle.model.specs.declared.world.Frame.{Frame}
use Rattle.model.specs.declared.world.Frame.TheVariants.{Routine, Walk, Cancel as CancelFrame}
use Rattle.model.specs.declared.world.Thread.{Thread}
use Rattle.model.specs.Queues.{StartState}
use Rattle.model.specs.Run.{run}
use Rattle.model.specs.Set.{Set}
use Rattle.model.specs.Sound.{IsSound}
use Rattle.model.specs.Typable.{IsTypable}
use Rattle.model.specs.World.{start_of}
use Rattle.laws_runs.specs.ArrivingStates.{States, StatesArrive}
use Rattle.laws_runs.specs.Holder.{thread_sum}

-- the tokens of a device that a frame has: one, if it is a routine's for that device, and has it by
-- the state at its position
abbrev pub frame_tokens : States → ℕ → Frame → ℕ
frame_tokens states d (Routine a) =
    if nat_eq a.device d && (states a.driver a.routine a.position).token then 1 else 0
frame_tokens states d (Walk n) = 0
frame_tokens states d (CancelFrame c) = 0

-- those that wait for StartIo to begin, or for a DPC routine to take the current packet
abbrev pub slot_tokens : Option ℕ → ℕ
slot_tokens None = 0
slot_tokens (Some n) = 1

abbrev pub start_tokens : StartState → ℕ
start_tokens start = length start.start_list + slot_tokens start.slot

-- all of a device
abbrev pub tokens : States → List Thread → ℕ → StartState → ℕ
tokens states threads d start =
    thread_sum (λ f. frame_tokens states d f) threads + start_tokens start

-- a busy device has one token: an entry of its start list, a full slot, or a routine's frame; an
-- idle one has none, and no packet waits in its device queue
pub record HasOneToken (set : Set) (states : States) (threads : ℕ) (events : List Event) : Type 0 where
  pub one : (d : ℕ) (start : StartState)
      → start_of (run set threads events).world.shared d ≡ Some start
      → tokens states (run set threads events).world.threads d start ≡ (if start.busy then 1 else 0)
  pub idle : (d : ℕ) (start : StartState)
      → start_of (run set threads events).world.shared d ≡ Some start
      → start.busy ≡ false → start.device_queue ≡ []

abbrev pub BusyDevicesHaveOneToken : Type 0
BusyDevicesHaveOneToken =
    (set : Set) → IsTypable set → IsSound set
    → (states : States) × StatesArrive set states
    × ((threads : ℕ) (events : List Event) → HasOneToken set states threads events)
