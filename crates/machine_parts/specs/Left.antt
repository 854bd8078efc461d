-- What the machine's own account of a frame's step says.
use Rattle.std.specs.Prelude.{true, [], ◌∷◌, Some}
use Rattle.model.specs.declared.event.Reply.TheVariants.{Topped, Waited}
use Rattle.laws_slots.specs.Words.{entered, WordFrame, WordRoutine}
use Rattle.machine_parts.specs.declared.ran.Over.{Over}
use Rattle.machine_parts.specs.declared.ran.Over.TheVariants.{Manager, Routine}
use Rattle.machine_parts.specs.declared.ran.Ran.{Ran}
use Rattle.machine_parts.specs.declared.ran.Ran.TheVariants.{Steps, Waits, Under, Becomes, Ends, TopsOut, Stopped, Returned}
use Rattle.machine_parts.specs.Frames.{manager_frame}
use Rattle.laws_slots.specs.WordStep.{WordOutcome, leaves}
use Rattle.laws_slots.specs.Slots.{SlotShared}

-- a frame that is put over another, or into its place
abbrev pub frame_over : Over → WordFrame
frame_over (Manager m) = manager_frame m
frame_over (Routine driver routine device key) =
    WordRoutine (entered driver routine device key)

-- what a step has left, of a frame that is now f
abbrev pub left_of : SlotShared → WordFrame → Ran → WordOutcome
left_of s f Steps = leaves s (f ∷ [])
left_of s f Waits = record (leaves s (f ∷ [])) { reply = Waited }
left_of s f (Under over) = leaves s (f ∷ frame_over over ∷ [])
left_of s f (Becomes over) = leaves s (frame_over over ∷ [])
left_of s f Ends = leaves s []
left_of s f (TopsOut number status info) =
    record (leaves s []) { reply = Topped number status info }
left_of s f Stopped = record (leaves s []) { taken_below = true }
left_of s f (Returned status) = record (leaves s []) { told = Some status }
