-- Which frame acts in an event, where it stands, and the packet that its step is about.
use Rattle.std.specs.Prelude.{ℕ, Option, None, Some, option_and_then, option_map}
use Rattle.model.specs.declared.event.Event.{Event}
use Rattle.model.specs.declared.event.Event.TheVariants.{Issue, Cancel as CancelEvent, Interrupt, Dpc as DpcEvent, StartIo as StartIoEvent, Step}
use Rattle.model.specs.declared.instr.Instr.{Instr}
use Rattle.model.specs.declared.instr.Instr.TheVariants.{Get, Put, Mark, Insert, Remove, Unlink, Arm, Disarm, IfCancel, Start, Take, Begin, Next, Dequeue, Pass, Call, Complete, IfPending}
use Rattle.model.specs.declared.world.Activation.{Activation}
use Rattle.model.specs.declared.world.Frame.{Frame}
use Rattle.model.specs.declared.world.Frame.TheVariants.{Routine, Walk, Cancel as CancelFrame}
use Rattle.model.specs.Effect.{top_of}
use Rattle.model.specs.Queues.{head_of}
use Rattle.model.specs.Run.{frames_on}
use Rattle.model.specs.Set.{Set, instruction_at}
use Rattle.model.specs.View.{frame_view}
use Rattle.model.specs.World.{Shared, World, packet_in, queue_of, register, start_of}
use Rattle.tell_uses.specs.declared.acting.Acting.{Acting}

-- the frame that acts: in a step of a thread its top frame. In every other event none does: the I/O
-- manager begins something
abbrev pub acting_frame : World → Event → Option Frame
acting_frame w (Issue t d major argument) = None
acting_frame w (CancelEvent t n level) = None
acting_frame w (Interrupt d) = None
acting_frame w (DpcEvent t d) = None
acting_frame w (StartIoEvent t d) = None
acting_frame w (Step t) = top_of (frames_on w t)

-- the instruction at which it stands, if it is a routine's
abbrev pub instruction_of : Set → Frame → Option Instr
instruction_of set (Routine a) = instruction_at set a.driver a.routine a.position
instruction_of set (Walk n) = None
instruction_of set (CancelFrame c) = None

-- the register with the packet that an instruction is about
abbrev pub packet_register : Instr → Option ℕ
packet_register (Get r q field) = Some q
packet_register (Put q r) = Some q
packet_register (Mark r) = Some r
packet_register (Insert r q) = Some r
packet_register (Unlink r q) = Some r
packet_register (Arm r q) = Some r
packet_register (Disarm r label) = Some r
packet_register (IfCancel r label) = Some r
packet_register (Start r) = Some r
packet_register (Begin r) = Some r
packet_register (Dequeue r) = Some r
packet_register (Pass r) = Some r
packet_register (Call r f) = Some r
packet_register (Complete r status) = Some r
packet_register (IfPending r label) = Some r
packet_register i = None

-- the packet in it, or the one that the instruction finds first in a list or a slot
abbrev pub packet_by : Shared → Activation → Option Instr → Option ℕ
packet_by s a None = None
packet_by s a (Some (Remove r q label)) =
    option_and_then (λ entries. head_of entries) (queue_of s a.device q)
packet_by s a (Some (Take r label)) =
    option_and_then (λ start. start.slot) (start_of s a.device)
packet_by s a (Some Next) =
    option_and_then (λ start. head_of start.device_queue) (start_of s a.device)
packet_by s a (Some i) =
    option_and_then (λ r. packet_in s (register a r)) (packet_register i)

-- the packet that the next step of a frame is about which stands at this instruction
abbrev pub packet_at : Shared → Frame → Option Instr → Option ℕ
packet_at s (Routine a) i = packet_by s a i
packet_at s (Walk n) i = Some n
packet_at s (CancelFrame c) i = Some c.packet

-- all that is told of the frame that acts
abbrev pub acting_by : Set → World → Frame → Acting
acting_by set w f =
    record {
      frame = frame_view f;
      instruction = instruction_of set f;
      packet = packet_at w.shared f (instruction_of set f);
    }

abbrev pub acting_in : Set → World → Event → Option Acting
acting_in set w e = option_map (acting_by set w) (acting_frame w e)
