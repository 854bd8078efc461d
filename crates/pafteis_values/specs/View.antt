-- What the header tells of a thread, a packet and a device.
use Rattle.std.specs.Prelude.{ℕ, Bool, false, Option, None, Some, replicate}
use Rattle.model.specs.declared.set.QueueName.{QueueName}
use Rattle.model.specs.declared.set.QueueName.TheVariants.{Declared, DeviceQueue}
use Rattle.model.specs.declared.view.FrameView.{FrameView}
use Rattle.model.specs.declared.view.FrameView.TheVariants.{Routine as RoutineView, Walk as WalkView, Cancel as CancelView}
use Rattle.model.specs.declared.view.PacketView.{PacketView}
use Rattle.model.specs.declared.view.PacketView.TheVariants.{Never, Live, Topped}
use Rattle.model.specs.declared.view.ThreadView.{ThreadView}
use Rattle.model.specs.declared.world.Armer.{Armer}
use Rattle.model.specs.declared.world.CancelStep.{CancelStep}
use Rattle.model.specs.declared.world.CancelStep.TheVariants.{Acquire, SetFlag, Exchange}
use Rattle.model.specs.declared.world.Irql.{Irql}
use Rattle.model.specs.declared.world.Irql.TheVariants.{Passive, Apc, Dispatch}
use Rattle.pafteis_values.specs.declared.view.ArmedValue.{ArmedValue}
use Rattle.pafteis_values.specs.declared.view.DueValue.{DueValue}
use Rattle.pafteis_values.specs.declared.view.FrameValue.{FrameValue}
use Rattle.pafteis_values.specs.declared.view.PacketValue.{PacketValue}
use Rattle.pafteis_values.specs.declared.view.ThreadValue.{ThreadValue}

-- the number of a level
abbrev pub level_number : Irql → ℕ
level_number Passive = 0
level_number Apc = 1
level_number Dispatch = 2

-- the number of a step of a cancel
abbrev pub step_number : CancelStep → ℕ
step_number Acquire = 1
step_number SetFlag = 2
step_number Exchange = 3

abbrev pub no_frame : FrameValue
no_frame =
    record { packet = 0; kind = 0; position = 0; driver = 0; routine = 0; device = 0; next = 0 }

-- the top frame of a thread, or none
abbrev pub frame_value : Option FrameView → FrameValue
frame_value None = no_frame
frame_value (Some (RoutineView driver routine device position)) =
    record no_frame {
      kind = 1;
      position = position;
      driver = driver;
      routine = routine;
      device = device;
    }
frame_value (Some (WalkView packet)) = record no_frame { packet = packet; kind = 2 }
frame_value (Some (CancelView c)) =
    record no_frame { packet = c.packet; kind = 3; next = step_number c.next }

-- a thread as a value
abbrev pub thread_value : ThreadView → ThreadValue
thread_value thread =
    record {
      frames = thread.frames;
      level = level_number thread.root;
      top = frame_value thread.top;
    }

-- whose cancel routine is set, that of a queue or of a device queue
abbrev pub armed_by : ℕ → QueueName → ArmedValue
armed_by device (Declared queue) = record { kind = 1; device = device; queue = queue }
armed_by device DeviceQueue = record { kind = 2; device = device; queue = 0 }

abbrev pub armed_value : Option Armer → ArmedValue
armed_value None = record { kind = 0; device = 0; queue = 0 }
armed_value (Some armer) = armed_by armer.device armer.queue

abbrev pub no_packet : PacketValue
no_packet =
    record {
      kind = 0;
      depth = 0;
      armed = armed_value None;
      cancel = false;
      marks = replicate 16 false;
    }

-- a packet as a value
abbrev pub packet_value : PacketView → PacketValue
packet_value Never = no_packet
packet_value Topped = record no_packet { kind = 2 }
packet_value (Live live) =
    record {
      kind = 1;
      depth = live.depth;
      armed = armed_value live.armer;
      cancel = live.cancel;
      marks = live.marks;
    }

-- what is due of a device, as a value
abbrev pub due_value : Bool × Bool → DueValue
due_value due = record { start_io = due.0; dpc = due.1 }
