-- The cancellations that were missed: IoCancelIrp has set a packet's Irp->Cancel, its cancel routine
-- is set, and no thread is in IoCancelIrp for it, which would call that.
use Rattle.std.specs.Prelude.{ℕ, ◌&&◌, ◌++◌, not, zero, suc, Bool, false, List, [], ◌∷◌, Option, None, Some, is_some, nat_eq, if◌then◌else◌}
use Rattle.std.specs.List.{list_any}
use Rattle.model.specs.declared.world.Frame.{Frame}
use Rattle.model.specs.declared.world.Frame.TheVariants.{Routine, Walk, Cancel as CancelFrame}
use Rattle.model.specs.declared.world.Packet.{Packet}
use Rattle.model.specs.declared.world.Thread.{Thread}
use Rattle.model.specs.World.{World, packet_of}

-- a frame is IoCancelIrp's for a packet, whatever it does next
abbrev pub frame_cancels : ℕ → Frame → Bool
frame_cancels n (Routine a) = false
frame_cancels n (Walk m) = false
frame_cancels n (CancelFrame c) = nat_eq c.packet n

abbrev pub thread_cancels : ℕ → Thread → Bool
thread_cancels n thread = list_any (frame_cancels n) thread.frames.items

-- some thread is in IoCancelIrp for it
abbrev pub is_being_cancelled : World → ℕ → Bool
is_being_cancelled w n = list_any (thread_cancels n) w.threads

-- Irp->Cancel is set, and so is the cancel routine
abbrev pub is_to_cancel : Packet → Bool
is_to_cancel p = p.cancel && is_some p.armer

-- a live packet whose cancellation was missed; those of so many numbers, and all of them
abbrev pub missed_at : World → ℕ → Option Packet → List ℕ
missed_at w n None = []
missed_at w n (Some p) =
    if is_to_cancel p && not (is_being_cancelled w n) then n ∷ [] else []

abbrev pub missed_below : World → ℕ → List ℕ
missed_below w zero = []
missed_below w (suc n) = missed_below w n ++ missed_at w n (packet_of w.shared n)

abbrev pub missed_packets : World → List ℕ
missed_packets w = missed_below w w.shared.issued
