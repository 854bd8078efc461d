-- What the machine's own account of an instruction says.
use Rattle.std.specs.Prelude.{List}
use Rattle.model.specs.declared.world.Activation.{Activation}
use Rattle.model.specs.declared.world.Frame.{Frame}
use Rattle.model.specs.declared.world.Frame.TheVariants.{Routine}
use Rattle.model.specs.declared.instr.Instr.{Instr}
use Rattle.model.specs.Effect.{Outcome, instruction_effect, top_of}
use Rattle.model.specs.Set.{Set}
use Rattle.model.specs.World.{Shared}
use Rattle.checked_parts.specs.declared.ran.Ran.{Ran}
use Rattle.checked_parts.specs.declared.ran.Runner.{Runner}
use Rattle.checked_parts.specs.Left.{Left, judged, bounded}
use Rattle.checked_parts.specs.Ran.{Leaves}

-- what an instruction of a thread's activation has to leave, over these frames
abbrev pub instruction_now : Set → Shared → Runner → List Frame → Activation → Instr → Left
instruction_now set s r below a i =
    bounded below s (Routine a)
    (judged s r (Routine a) (instruction_effect set s r.thread (top_of below) a i))

-- an instruction with this outcome has left that, on any thread, whatever is shared: that stays
abbrev pub LeavesShared : Activation → (Shared → Outcome) → Activation → Ran → Type 0
LeavesShared a o b ran = (s : Shared) → Leaves s a (o s) s b ran
