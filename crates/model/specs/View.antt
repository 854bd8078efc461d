-- What there is to tell of the threads, packets and devices of a world.
use Rattle.std.specs.Prelude.{ℕ, ◌-◌, ◌++◌, Bool, false, List, length, map, Option, None, Some, is_some, nat_lt, option_map, replicate, slice_get, if◌then◌else◌}
use Rattle.model.specs.declared.limits.TheConstants.{MAX_STACK}
use Rattle.model.specs.declared.view.FrameView.{FrameView}
use Rattle.model.specs.declared.view.FrameView.TheVariants.{Routine as RoutineView, Walk as WalkView, Cancel as CancelView}
use Rattle.model.specs.declared.view.LiveView.{LiveView}
use Rattle.model.specs.declared.view.PacketView.{PacketView}
use Rattle.model.specs.declared.view.PacketView.TheVariants.{Never, Live, Topped}
use Rattle.model.specs.declared.view.ThreadView.{ThreadView}
use Rattle.model.specs.declared.world.Frame.{Frame}
use Rattle.model.specs.declared.world.Frame.TheVariants.{Routine, Walk, Cancel as CancelFrame}
use Rattle.model.specs.declared.world.Location.{Location}
use Rattle.model.specs.declared.world.Packet.{Packet}
use Rattle.model.specs.declared.world.Thread.{Thread}
use Rattle.model.specs.Effect.{top_of}
use Rattle.model.specs.Queues.{StartState, head_of}
use Rattle.model.specs.World.{Shared, World, is_queued, packet_of, start_of}

abbrev pub frame_view : Frame → FrameView
frame_view (Routine a) = RoutineView a.driver a.routine a.device a.position
frame_view (Walk n) = WalkView n
frame_view (CancelFrame c) = CancelView c

abbrev pub thread_view : Thread → ThreadView
thread_view thread =
    record {
      root = thread.root;
      frames = length thread.frames.items;
      top = option_map frame_view (top_of thread.frames.items);
    }

-- the thread of a number, if there is one
abbrev pub thread_at : World → ℕ → Option ThreadView
thread_at w t = option_map thread_view (slice_get w.threads t)

-- the marks of a packet's locations, and none where it has no location
abbrev pub marks_of : List Location → List Bool
marks_of locations =
    map (λ l. l.marked) locations ++ replicate (MAX_STACK - length locations) false

abbrev pub live_view : Packet → LiveView
live_view p =
    record {
      depth = p.depth;
      cancel = p.cancel;
      marks = marks_of p.locations.items;
      armer = p.armer;
    }

abbrev pub view_of : Shared → ℕ → Option Packet → PacketView
view_of s n (Some p) = Live (live_view p)
view_of s n None = if nat_lt n s.issued then Topped else Never

-- the packet of a number
abbrev pub packet_view : Shared → ℕ → PacketView
packet_view s n = view_of s n (packet_of s n)

-- what is due of a device: a packet for which its StartIo routine has to begin, and its DPC
abbrev pub has_first : Option StartState → Bool
has_first None = false
has_first (Some start) = is_some (head_of start.start_list)

abbrev pub due_view : Shared → ℕ → Bool × Bool
due_view s d = (has_first (start_of s d), is_queued s d)

-- the packet of a number and what is due of a device, in a world
abbrev pub packet_at : World → ℕ → PacketView
packet_at w n = packet_view w.shared n

abbrev pub due_at : World → ℕ → Bool × Bool
due_at w d = due_view w.shared d

-- whether a thread has frames
abbrev pub has_frames : Option ThreadView → Bool
has_frames None = false
has_frames (Some thread) = nat_lt 0 thread.frames

abbrev pub busy_at : World → ℕ → Bool
busy_at w t = has_frames (thread_at w t)
