-- The machine's frames, as the definitions see them.
use Rattle.std.specs.Prelude.{ℕ, Option, None, Some}
use Rattle.model.specs.declared.world.Activation.{Activation}
use Rattle.model.specs.declared.world.CancelStep.{CancelStep}
use Rattle.model.specs.declared.world.Frame.{Frame}
use Rattle.model.specs.declared.world.Frame.TheVariants.{Routine, Walk, Cancel}
use Rattle.checked_parts.specs.declared.frame.Managing.{Managing}
use Rattle.checked_parts.specs.declared.frame.Managing.TheVariants.{Completes, Cancels}

-- the I/O manager's frame, of what it does
abbrev pub manager_frame : Managing → Frame
manager_frame (Completes n) = Walk n
manager_frame (Cancels c) = Cancel c

-- its frame where it does something, and else a routine's
abbrev pub shown : Option Managing → Activation → Frame
shown (Some m) a = manager_frame m
shown None a = Routine a

-- its frame where it cancels a packet, and does this next
abbrev pub cancels_next : ℕ → CancelStep → Frame
cancels_next n step = Cancel (record { packet = n; next = step })

-- what the I/O manager does in a frame, where that is its
abbrev pub manager_of : Frame → Option Managing
manager_of (Walk n) = Some (Completes n)
manager_of (Routine a) = None
manager_of (Cancel c) = Some (Cancels c)

-- the packet that a frame completes
abbrev pub walked_packet : Frame → Option ℕ
walked_packet (Walk n) = Some n
walked_packet (Routine a) = None
walked_packet (Cancel c) = None

-- the routine that runs, where a frame is a routine's
abbrev pub activation_of : Frame → Option Activation
activation_of (Routine a) = Some a
activation_of (Walk n) = None
activation_of (Cancel c) = None
