-- The state that arrives at each position of a routine: what the registers of a frame hold, and
-- whether the frame has a token, is read off it.
use Rattle.std.specs.Prelude.{ℕ, ◌≡◌, ◌<◌, length, Some}
use Rattle.model.specs.declared.abs.Abs.{Abs}
use Rattle.model.specs.declared.set.Routine.{Routine as RoutineOf}
use Rattle.model.specs.Set.{Set, member, routine_of}
use Rattle.model.specs.Typable.{ArrivesAlone}

-- a state for every position of every routine: by the driver's number, the routine's, and the
-- position
abbrev pub States : Type 0
States = ℕ → ℕ → ℕ → Abs

-- at each position of each routine of a set, the default routine's too, this state arrives and no
-- other: so any two such tables agree at all positions
pub record StatesArrive (set : Set) (states : States) : Type 0 where
  pub alone : (driver number p : ℕ) (routine : RoutineOf)
      → routine_of set driver number ≡ Some routine
      → p < length routine.code
      → ArrivesAlone (member set driver number routine) p (states driver number p)
