-- How packets, threads and devices stand in a world, as may be expected of them.
use Rattle.std.specs.Prelude.{ℕ, ◌&&◌, not, Bool, true, false, nat_eq, is_some, Option, None, Some}
use Rattle.laws_runs.specs.Waiting.{waits_for}
use Rattle.model.specs.declared.history.TopOut.{TopOut}
use Rattle.model.specs.declared.status.Status.{Status}
use Rattle.model.specs.declared.view.FrameView.{FrameView}
use Rattle.model.specs.declared.view.FrameView.TheVariants.{Routine, Walk, Cancel as CancelView}
use Rattle.model.specs.declared.view.PacketView.{PacketView}
use Rattle.model.specs.declared.view.PacketView.TheVariants as view
use Rattle.model.specs.declared.view.ThreadView.{ThreadView}
use Rattle.model.specs.Queues.{StartState}
use Rattle.model.specs.Set.{Set}
use Rattle.model.specs.Status.{status_code}
use Rattle.model.specs.View.{thread_at}
use Rattle.model.specs.World.{World, is_queued, start_of}
use Rattle.scenario_expected.specs.declared.expectation.DeviceState.{DeviceState}
use Rattle.scenario_expected.specs.declared.expectation.DeviceState.TheVariants as device
use Rattle.scenario_expected.specs.declared.expectation.ThreadState.{ThreadState}
use Rattle.scenario_expected.specs.declared.expectation.ThreadState.TheVariants as thread
use Rattle.scenario_names.specs.declared.names.Spot.{Spot}
use Rattle.scenario_world.specs.Expected.{is_number, number_in}

-- a packet is live, and its Irp->Cancel is set
abbrev pub is_live : PacketView → Bool
is_live view.Never = false
is_live (view.Live live) = true
is_live view.Topped = false

abbrev pub is_cancelled : PacketView → Bool
is_cancelled view.Never = false
is_cancelled (view.Live live) = live.cancel
is_cancelled view.Topped = false

-- it has topped out, with what is given
abbrev pub has_status : Option Status → Status → Bool
has_status None status = true
has_status (Some given) status = nat_eq (status_code given) (status_code status)

abbrev pub has_information : Option ℕ → ℕ → Bool
has_information None info = true
has_information (Some given) info = nat_eq given info

abbrev pub topped_as : Option Status → Option ℕ → Option TopOut → Bool
topped_as status information None = false
topped_as status information (Some top) =
    has_status status top.status && has_information information top.info

-- a thread's next step is that of an instruction
abbrev pub is_at : Spot → Option FrameView → Bool
is_at spot None = false
is_at spot (Some (Routine driver routine device position)) =
    nat_eq driver spot.driver && nat_eq routine spot.routine && nat_eq position spot.position
is_at spot (Some (Walk n)) = false
is_at spot (Some (CancelView c)) = false

abbrev pub stands_at : Spot → Option ThreadView → Bool
stands_at spot None = false
stands_at spot (Some view) = is_at spot view.top

-- a thread that there is has no frame, or one
abbrev pub is_idle : Option ThreadView → Bool
is_idle None = false
is_idle (Some v) = nat_eq v.frames 0

abbrev pub is_busy : Option ThreadView → Bool
is_busy None = false
is_busy (Some v) = not (nat_eq v.frames 0)

abbrev pub thread_holds : Set → World → ℕ → ThreadState → Bool
thread_holds set w t thread.Idle = is_idle (thread_at w t)
thread_holds set w t thread.Busy = is_busy (thread_at w t)
thread_holds set w t thread.Waiting = is_some (waits_for set w t)
thread_holds set w t (thread.WaitingFor u) = is_number u (waits_for set w t)
thread_holds set w t (thread.At spot) = stands_at spot (thread_at w t)

-- a device that there is isn't busy with a packet, or is
abbrev pub is_free : Option StartState → Bool
is_free None = false
is_free (Some start) = not start.busy

abbrev pub is_taken : Option StartState → Bool
is_taken None = false
is_taken (Some start) = start.busy

abbrev pub device_holds : World → ℕ → DeviceState → Bool
device_holds w d device.Idle = is_free (start_of w.shared d)
device_holds w d device.Busy = is_taken (start_of w.shared d)
device_holds w d device.DpcQueued = is_queued w.shared d
device_holds w d (device.Has cell n) = is_number n (number_in w.shared d cell)
