-- A thread whose next step releases a spin lock of its device.
use Rattle.std.specs.Prelude.{ℕ, Bool, false, nat_eq, Option, None, Some}
use Rattle.model.specs.declared.instr.Instr.{Instr}
use Rattle.model.specs.declared.instr.Instr.TheVariants.{Release}
use Rattle.model.specs.declared.world.Frame.{Frame}
use Rattle.model.specs.declared.world.Frame.TheVariants.{Routine, Walk, Cancel as CancelFrame}
use Rattle.model.specs.Effect.{top_of}
use Rattle.model.specs.Run.{frames_on}
use Rattle.model.specs.Set.{Set, instruction_at}
use Rattle.model.specs.World.{World}

-- an instruction releases a spin lock of its device
abbrev pub is_release : ℕ → Option Instr → Bool
is_release lock None = false
is_release lock (Some (Release l)) = nat_eq l lock
is_release lock (Some i) = false

-- the next step of a frame does, and that of a thread
abbrev pub releases : Set → ℕ → Option Frame → Bool
releases set lock None = false
releases set lock (Some (Routine a)) =
    is_release lock (instruction_at set a.driver a.routine a.position)
releases set lock (Some (Walk n)) = false
releases set lock (Some (CancelFrame c)) = false

abbrev pub stands_before_release : Set → World → ℕ → ℕ → Bool
stands_before_release set w t lock = releases set lock (top_of (frames_on w t))
