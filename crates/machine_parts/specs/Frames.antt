-- The machine's frames, as frames of words.
use Rattle.std.specs.Prelude.{Option, None, Some}
use Rattle.laws_slots.specs.declared.activation.WordActivation.{WordActivation}
use Rattle.model.specs.declared.status.Status.{Status}
use Rattle.laws_slots.specs.Words.{answered, WordCancel, WordFrame, WordRoutine, WordWalk}
use Rattle.model.specs.Set.{Set}
use Rattle.machine_parts.specs.declared.ran.Managing.{Managing}
use Rattle.machine_parts.specs.declared.ran.Managing.TheVariants.{Completes, Cancels}

-- the I/O manager's frame, of what it does
abbrev pub manager_frame : Managing → WordFrame
manager_frame (Completes k) = WordWalk k
manager_frame (Cancels k n step) = WordCancel k n step

-- its frame where it does something, and else a routine's
abbrev pub frame_of : Option Managing → WordActivation → WordFrame
frame_of (Some m) a = manager_frame m
frame_of None a = WordRoutine a

-- what the I/O manager does in a frame, where that is its
abbrev pub manager_of : WordFrame → Option Managing
manager_of (WordRoutine a) = None
manager_of (WordWalk k) = Some (Completes k)
manager_of (WordCancel k n step) = Some (Cancels k n step)

-- a frame that is told the status that a lower driver returned
abbrev pub told : Set → Status → WordFrame → WordFrame
told set status (WordRoutine a) = WordRoutine (answered set a status)
told set status (WordWalk k) = WordWalk k
told set status (WordCancel k n step) = WordCancel k n step
