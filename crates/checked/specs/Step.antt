-- An event as a machine does it that keeps no trace, and tells from its reply whether it stops.
use Rattle.std.specs.Prelude.{ℕ, ◌-◌, Bool, true, false, List, ◌++◌, length, Option, None, Some, take, slice_get, if◌then◌else◌}
use Rattle.model.specs.declared.world.Frame.{Frame}
use Rattle.model.specs.declared.world.Thread.{Thread}
use Rattle.model.specs.declared.status.Status.{Status}
use Rattle.model.specs.declared.event.Event.{Event}
use Rattle.model.specs.declared.event.Event.TheVariants.{Issue, Cancel, Interrupt, Dpc, StartIo, Step}
use Rattle.model.specs.declared.event.Reply.{Reply}
use Rattle.model.specs.declared.event.Reply.TheVariants.{Started, Stepped, Finished, Topped, Waited, Idle, Refused, Bug as BugCheckReply, Wrong}
use Rattle.model.specs.declared.world.Frame.TheVariants.{Routine, Walk, Cancel as CancelFrame}
use Rattle.model.specs.Effect.{answered, told_to, kept_below}
use Rattle.model.specs.Events.{Change, with_stack, with_thread, issue_on, irql_of, cancel_on, interrupt_on, dpc_on, startio_on, finished_or}
use Rattle.model.specs.Machine.{Machine}
use Rattle.model.specs.Set.{Set, dpc_of, startio_of}
use Rattle.model.specs.World.{Shared, World}
use Rattle.checked_parts.specs.declared.ran.Runner.{Runner}
use Rattle.checked_parts.specs.Left.{Left, frame_now}

-- a frame that is told a status
abbrev pub told_frame : Set → Status → Frame → Frame
told_frame set status (Walk n) = Walk n
told_frame set status (Routine a) = Routine (answered set a status)
told_frame set status (CancelFrame c) = CancelFrame c

-- what a thread's step leaves: the shared part, the thread, and the reply
pub record Moved : Type 0 where
  pub shared : Shared
  pub thread : Thread
  pub reply : Reply

abbrev pub moved_to : Shared → Thread → List Frame → Reply → Moved
moved_to s thread frames reply =
    record { shared = s; thread = with_stack thread frames; reply = finished_or frames reply }

abbrev pub moved_by : Set → Thread → List Frame → Left → Moved
moved_by set thread below left =
    moved_to left.shared thread
    (told_to set (kept_below below left.taken_below) left.told ++ left.frames) left.reply

-- who runs a thread's top frame
abbrev pub runner : ℕ → Thread → Runner
runner t thread = record { thread = t; root = thread.root }

abbrev pub top_now : Set → Shared → ℕ → Thread → List Frame → Option Frame → Moved
top_now set s t thread below None = record { shared = s; thread = thread; reply = Idle }
top_now set s t thread below (Some f) =
    moved_by set thread below (frame_now set s (runner t thread) below f)

abbrev pub thread_now : Set → Shared → ℕ → Thread → Moved
thread_now set s t thread =
    top_now set s t thread
    (take (length thread.frames.items - 1) thread.frames.items)
    (slice_get thread.frames.items (length thread.frames.items - 1))

-- what an event leaves: the world and the reply
pub record Ended : Type 0 where
  pub world : World
  pub reply : Reply

abbrev pub step_ended : World → ℕ → Moved → Ended
step_ended w t m = record { world = with_thread w t m.shared m.thread; reply = m.reply }

abbrev pub step_now : Set → World → ℕ → Option Thread → Ended
step_now set w t None = record { world = w; reply = Refused }
step_now set w t (Some thread) = step_ended w t (thread_now set w.shared t thread)

abbrev pub ended : Change → Ended
ended c = record { world = c.world; reply = c.reply }

abbrev pub event_now : Set → World → Event → Ended
event_now set w (Issue t d major argument) =
    ended (issue_on set w t d major argument (slice_get w.threads t) (slice_get set.devices d))
event_now set w (Cancel t n level) =
    ended (cancel_on w t n (irql_of level) (slice_get w.threads t))
event_now set w (Interrupt d) = ended (interrupt_on w d (dpc_of set d))
event_now set w (Dpc t d) = ended (dpc_on set w t d (slice_get w.threads t) (dpc_of set d))
event_now set w (StartIo t d) =
    ended (startio_on set w t d (slice_get w.threads t) (startio_of set d))
event_now set w (Step t) = step_now set w t (slice_get w.threads t)

-- a bug check or a wrong operand stops the machine
abbrev pub is_stop : Reply → Bool
is_stop (BugCheckReply bug) = true
is_stop (Wrong place) = true
is_stop (Started packet) = false
is_stop Stepped = false
is_stop Finished = false
is_stop (Topped packet status info) = false
is_stop Waited = false
is_stop Idle = false
is_stop Refused = false

-- what a machine holds beside its set: a world, and whether it has stopped
pub record State : Type 0 where
  pub world : World
  pub stopped : Bool

abbrev pub machine_of : Set → State → Machine
machine_of set state = record { set = set; world = state.world; stopped = state.stopped }

-- what an event leaves of it, and the reply
pub record Taken : Type 0 where
  pub state : State
  pub reply : Reply

abbrev pub taken : Ended → Taken
taken e = record { state = record { world = e.world; stopped = is_stop e.reply }; reply = e.reply }

abbrev pub state_now : Set → State → Event → Taken
state_now set state e =
    if state.stopped then record { state = state; reply = Refused }
    else taken (event_now set state.world e)
