-- What is weighed of each instruction and of each routine of a driver, at once.
use Rattle.std.specs.Prelude.{ℕ, List}
use Rattle.model.specs.declared.instr.Instr.{Instr}
use Rattle.model.specs.declared.set.Routine.{Routine}
use Rattle.model.specs.Sound.{LabelFits, OperandFits, CallFits, CallsFit, QueueFits, QueuesFit, RoutineFits}

-- what an instruction names is there: one of so many positions of its routine, a completion routine
-- of its driver, one of so many queues
abbrev pub NamesFit : ℕ → List Routine → ℕ → Instr → Type 0
NamesFit positions routines queues i =
    LabelFits positions i × CallFits routines i × QueueFits queues i

-- an instruction fits in all
abbrev pub InstrFits : ℕ → List Routine → ℕ → Instr → Type 0
InstrFits positions routines queues i = NamesFit positions routines queues i × OperandFits i

-- a routine of a driver fits, and what it names is there
abbrev pub RoutineStands : List Routine → ℕ → Routine → Type 0
RoutineStands routines queues routine =
    RoutineFits routine × CallsFit routines routine × QueuesFit queues routine
