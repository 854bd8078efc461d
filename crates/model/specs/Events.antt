-- What an event does to a world: the world after it, the actions that make it up, and the reply.
-- What a step of a thread's top frame does is in the module Effect.
use Rattle.std.specs.Prelude.{ℕ, ◌+◌, ◌-◌, ◌&&◌, ◌||◌, not, Bool, true, false, List, [], ◌∷◌, ◌++◌, length, Option, None, Some, nat_eq, nat_lt, take, slice_get, slice_set, if◌then◌else◌}
use Rattle.model.specs.declared.world.Activation.{Activation}
use Rattle.model.specs.declared.world.Frame.{Frame}
use Rattle.model.specs.declared.world.Frame.TheVariants.{Routine}
use Rattle.model.specs.declared.world.Irql.{Irql}
use Rattle.model.specs.declared.world.Irql.TheVariants.{Passive, Apc, Dispatch as DispatchLevel}
use Rattle.model.specs.declared.world.CancelStep.TheVariants.{Acquire as AcquireStep}
use Rattle.model.specs.declared.world.Thread.{Thread}
use Rattle.model.specs.declared.limits.TheConstants.{MAX_FRAMES, MAX_ISSUED, MAX_LIVE_PACKETS}
use Rattle.model.specs.declared.world.Packet.{Packet}
use Rattle.model.specs.declared.world.Value.TheVariants.{Blank, Ref}
use Rattle.model.specs.declared.status.Major.{Major}
use Rattle.model.specs.declared.set.Device.{Device}
use Rattle.model.specs.declared.event.Event.{Event}
use Rattle.model.specs.declared.event.Event.TheVariants.{Issue, Cancel as CancelEvent, Interrupt, Dpc as DpcEvent, StartIo as StartIoEvent, Step}
use Rattle.model.specs.declared.event.Reply.{Reply}
use Rattle.model.specs.declared.event.Reply.TheVariants.{Started, Stepped, Finished, Topped, Waited, Idle, Refused, Bug as BugCheckReply, Wrong}
use Rattle.model.specs.Action.{Action, Issues}
use Rattle.model.specs.Queues.{StartState, head_of, without_first_to_start}
use Rattle.model.specs.Effect.{Outcome, routine_of_device, goes_on_cancelling, frame_effect, top_of, told_to, kept_below}
use Rattle.model.specs.Set.{Set, serving, dpc_of, startio_of}
use Rattle.model.specs.World.{Shared, World, packet_of, new_packet, entered, start_of, with_start, is_queued, with_dpc}

-- what an event leaves: the world, the actions in order, the reply, and whether it would pass a
-- bound: a 33rd frame on a thread, or a 4,097th entry of a list
pub record Change : Type 0 where
  pub world : World
  pub actions : List Action
  pub reply : Reply
  pub over : Bool

-- nothing changes
abbrev pub unchanged : World → Reply → Change
unchanged w reply = record { world = w; actions = []; reply = reply; over = false }

-- a step that leaves its thread without frames has finished it
abbrev pub finished_or : List Frame → Reply → Reply
finished_or [] Stepped = Finished
finished_or [] (Started packet) = Started packet
finished_or [] Finished = Finished
finished_or [] (Topped packet status info) = Topped packet status info
finished_or [] Waited = Waited
finished_or [] Idle = Idle
finished_or [] Refused = Refused
finished_or [] (BugCheckReply bug) = BugCheckReply bug
finished_or [] (Wrong place) = Wrong place
finished_or (f ∷ frames) reply = reply

-- a thread with other frames: one that is left without any is idle, at PASSIVE_LEVEL
abbrev pub root_over : Irql → List Frame → Irql
root_over root [] = Passive
root_over root (f ∷ frames) = root

abbrev pub with_stack : Thread → List Frame → Thread
with_stack thread frames =
    record thread { root = root_over thread.root frames; frames = record { items = frames } }

-- the world with another thread in place of one
abbrev pub with_thread : World → ℕ → Shared → Thread → World
with_thread w t s thread = record { threads = slice_set w.threads t thread; shared = s }

-- the frames that stand after a step: those below, told, and those in place of the one that ran
abbrev pub standing : Set → List Frame → Outcome → List Frame
standing set below o = told_to set (kept_below below o.taken_below) o.told ++ o.frames

-- the top frame's outcome, over the frames below it
abbrev pub settled : Set → World → ℕ → Thread → List Frame → Outcome → Change
settled set w t thread below o =
    record {
      world = with_thread w t o.shared (with_stack thread (standing set below o));
      actions = o.actions;
      reply = finished_or (standing set below o) o.reply;
      over = o.full || nat_lt MAX_FRAMES (length (standing set below o));
    }

abbrev pub top_effect : Set → World → ℕ → Thread → List Frame → Option Frame → Change
top_effect set w t thread below None = unchanged w Idle
top_effect set w t thread below (Some f) =
    settled set w t thread below (frame_effect set w.shared t (top_of below) f)

-- Step: the thread's top frame, if it has one, does a step
abbrev pub step_thread : Set → World → ℕ → Option Thread → Change
step_thread set w t None = unchanged w Refused
step_thread set w t (Some thread) =
    top_effect set w t thread
    (take (length thread.frames.items - 1) thread.frames.items)
    (slice_get thread.frames.items (length thread.frames.items - 1))

-- Issue: a new packet is sent to a device by an idle thread
abbrev pub is_idle : Thread → Bool
is_idle thread = nat_eq (length thread.frames.items) 0

-- fewer than 4,096 packets live, and fewer than 18,446,744,073,709,551,615 were issued
abbrev pub can_issue : Shared → Bool
can_issue s = nat_lt (length s.packets) MAX_LIVE_PACKETS && nat_lt s.issued MAX_ISSUED

abbrev pub with_new_packet : Shared → ℕ → Device → Major → ℕ → Shared
with_new_packet s d device major argument =
    record s {
      packets = s.packets ++ new_packet s.issued d major argument device.stack ∷ [];
      issued = s.issued + 1;
    }

-- an idle thread on which a routine begins at a level
abbrev pub rooted : Thread → Irql → Activation → Thread
rooted thread level a = record thread { root = level; frames = record { items = Routine a ∷ [] } }

abbrev pub serves_request : Set → ℕ → Device → Major → ℕ → Activation
serves_request set d device major n =
    entered device.driver (serving (slice_get set.drivers device.driver) major) d (Ref n)

abbrev pub issued : Set → World → ℕ → ℕ → Thread → Device → Major → ℕ → Change
issued set w t d thread device major argument =
    record {
      world =
          with_thread w t (with_new_packet w.shared d device major argument)
          (rooted thread Passive (serves_request set d device major w.shared.issued));
      actions = Issues w.shared.issued device.stack ∷ [];
      reply = Started w.shared.issued;
      over = false;
    }

abbrev pub issue_on : Set → World → ℕ → ℕ → Major → ℕ → Option Thread → Option Device → Change
issue_on set w t d major argument None device = unchanged w Refused
issue_on set w t d major argument (Some thread) None = unchanged w Refused
issue_on set w t d major argument (Some thread) (Some device) =
    if is_idle thread && can_issue w.shared
    then issued set w t d thread device major argument
    else unchanged w Refused

-- Cancel: IoCancelIrp begins for a packet, on an idle thread at a level; of one that has topped out
-- nothing is left to cancel
abbrev pub irql_of : ℕ → Option Irql
irql_of level =
    if nat_eq level 0 then Some Passive else
    (if nat_eq level 1 then Some Apc else
    (if nat_eq level 2 then Some DispatchLevel else None))

abbrev pub cancelling : Thread → Irql → ℕ → Thread
cancelling thread level n =
    record thread { root = level; frames = record { items = goes_on_cancelling n AcquireStep } }

abbrev pub cancel_of : World → ℕ → ℕ → Irql → Thread → Option Packet → Change
cancel_of w t n level thread None = unchanged w Finished
cancel_of w t n level thread (Some p) =
    record (unchanged w (Started n)) {
      world = with_thread w t w.shared (cancelling thread level n);
    }

abbrev pub cancel_on : World → ℕ → ℕ → Option Irql → Option Thread → Change
cancel_on w t n level None = unchanged w Refused
cancel_on w t n None (Some thread) = unchanged w Refused
cancel_on w t n (Some level) (Some thread) =
    if is_idle thread && nat_lt n w.shared.issued
    then cancel_of w t n level thread (packet_of w.shared n)
    else unchanged w Refused

-- Interrupt: the device's DPC is queued (Driver Kit, IoRequestDpc), unless it is already
abbrev pub interrupted : World → ℕ → Change
interrupted w d =
    record (unchanged w Stepped) { world = record w { shared = with_dpc w.shared d true } }

abbrev pub interrupt_on : World → ℕ → Option ℕ → Change
interrupt_on w d None = unchanged w Refused
interrupt_on w d (Some routine) = if is_queued w.shared d then unchanged w Idle else interrupted w d

-- Dpc: the DPC of a device is taken off its queue, and then its routine begins at DISPATCH_LEVEL on
-- an idle thread
abbrev pub dpc_activation : Set → ℕ → ℕ → Activation
dpc_activation set d routine =
    entered (routine_of_device (slice_get set.devices d)) routine d Blank

abbrev pub dpc_begun : Set → World → ℕ → ℕ → Thread → ℕ → Change
dpc_begun set w t d thread routine =
    record (unchanged w Stepped) {
      world =
          with_thread w t (with_dpc w.shared d false)
          (rooted thread DispatchLevel (dpc_activation set d routine));
    }

abbrev pub dpc_on : Set → World → ℕ → ℕ → Option Thread → Option ℕ → Change
dpc_on set w t d None routine = unchanged w Refused
dpc_on set w t d (Some thread) None = unchanged w Refused
dpc_on set w t d (Some thread) (Some routine) =
    if not (is_idle thread) then unchanged w Refused else
    (if is_queued w.shared d then dpc_begun set w t d thread routine else unchanged w Idle)

-- StartIo: the first packet of the start list of a device is taken off, and the StartIo routine
-- begins for it at DISPATCH_LEVEL on an idle thread
abbrev pub startio_begun : Set → World → ℕ → ℕ → Thread → ℕ → ℕ → StartState → Change
startio_begun set w t d thread routine n start =
    record (unchanged w (Started n)) {
      world =
          with_thread w t (with_start w.shared d (without_first_to_start start))
          (rooted thread DispatchLevel
          (entered (routine_of_device (slice_get set.devices d)) routine d (Ref n)));
    }

abbrev pub startio_for : Set → World → ℕ → ℕ → Thread → ℕ → StartState → Option ℕ → Change
startio_for set w t d thread routine start None = unchanged w Idle
startio_for set w t d thread routine start (Some n) =
    startio_begun set w t d thread routine n start

abbrev pub startio_from : Set → World → ℕ → ℕ → Thread → ℕ → Option StartState → Change
startio_from set w t d thread routine None = unchanged w Refused
startio_from set w t d thread routine (Some start) =
    startio_for set w t d thread routine start (head_of start.start_list)

abbrev pub startio_on : Set → World → ℕ → ℕ → Option Thread → Option ℕ → Change
startio_on set w t d None routine = unchanged w Refused
startio_on set w t d (Some thread) None = unchanged w Refused
startio_on set w t d (Some thread) (Some routine) =
    if is_idle thread then startio_from set w t d thread routine (start_of w.shared d)
    else unchanged w Refused

-- what an event does
abbrev pub effect : Set → World → Event → Change
effect set w (Issue t d major argument) =
    issue_on set w t d major argument (slice_get w.threads t) (slice_get set.devices d)
effect set w (CancelEvent t n level) = cancel_on w t n (irql_of level) (slice_get w.threads t)
effect set w (Interrupt d) = interrupt_on w d (dpc_of set d)
effect set w (DpcEvent t d) = dpc_on set w t d (slice_get w.threads t) (dpc_of set d)
effect set w (StartIoEvent t d) = startio_on set w t d (slice_get w.threads t) (startio_of set d)
effect set w (Step t) = step_thread set w t (slice_get w.threads t)
