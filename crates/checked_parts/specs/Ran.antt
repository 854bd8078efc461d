-- What the machine's own account of a frame's step says.
use Rattle.std.specs.Prelude.{ℕ, ◌≡◌, ◌+◌, Bool, true, false, List, [], ◌∷◌, None, Some, nat_lt}
use Rattle.model.specs.declared.event.Reply.{Reply}
use Rattle.model.specs.declared.event.Reply.TheVariants.{Stepped, Wrong}
use Rattle.model.specs.declared.limits.TheConstants.{MAX_FRAMES}
use Rattle.model.specs.declared.world.Activation.{Activation}
use Rattle.model.specs.declared.world.Frame.{Frame}
use Rattle.model.specs.declared.world.Frame.TheVariants.{Routine}
use Rattle.model.specs.declared.world.Value.TheVariants.{Ref}
use Rattle.model.specs.Effect.{Outcome}
use Rattle.model.specs.World.{Shared, entered}
use Rattle.checked_parts.specs.declared.ran.Over.{Over}
use Rattle.checked_parts.specs.declared.ran.Over.TheVariants.{Manager, Routine as RoutineOver}
use Rattle.checked_parts.specs.declared.ran.Ran.{Ran}
use Rattle.checked_parts.specs.declared.ran.Ran.TheVariants.{Stays, Under, Becomes, Gone, Stopped, Returned}
use Rattle.checked_parts.specs.declared.ran.Runner.{Runner}
use Rattle.checked_parts.specs.Frames.{manager_frame}
use Rattle.checked_parts.specs.Left.{Left, judged, bounded, stays}

-- a frame that is put over another, or into its place
abbrev pub frame_over : Over → Frame
frame_over (Manager m) = manager_frame m
frame_over (RoutineOver driver routine device packet) =
    Routine (entered driver routine device (Ref packet))

-- the reply of a routine that goes wrong
abbrev pub wrong_reply : Activation → Reply
wrong_reply a = Wrong (record { driver = a.driver; routine = a.routine; position = a.position })

-- there is no room for another frame over one that stands over so many
abbrev pub is_last : ℕ → Bool
is_last below = nat_lt MAX_FRAMES (below + 2)

-- what a step has left, of a frame that is now f
abbrev pub left_of : Shared → Frame → Ran → Left
left_of s f (Stays reply) = stays s f reply
left_of s f (Under over) =
    record {
      shared = s;
      frames = f ∷ frame_over over ∷ [];
      reply = Stepped;
      taken_below = false;
      told = None;
    }
left_of s f (Becomes over) = stays s (frame_over over) Stepped
left_of s f (Gone reply) =
    record { shared = s; frames = []; reply = reply; taken_below = false; told = None }
left_of s f Stopped =
    record { shared = s; frames = []; reply = Stepped; taken_below = true; told = None }
left_of s f (Returned status) =
    record { shared = s; frames = []; reply = Stepped; taken_below = false; told = Some status }

-- an instruction with this outcome has left that, on a thread
abbrev pub LeavesOn : Runner → Shared → Activation → Outcome → Shared → Activation → Ran → Type 0
LeavesOn r s a o after b ran = left_of after (Routine b) ran ≡ judged s r (Routine a) o

-- on any thread
abbrev pub Leaves : Shared → Activation → Outcome → Shared → Activation → Ran → Type 0
Leaves s a o after b ran = (r : Runner) → LeavesOn r s a o after b ran

-- on any thread, over these frames
abbrev pub LeavesOver : List Frame → Shared → Activation → Outcome → Shared → Activation → Ran
    → Type 0
LeavesOver below s a o after b ran =
    (r : Runner) → left_of after (Routine b) ran ≡ bounded below s (Routine a)
    (judged s r (Routine a) o)
