-- The routine of a frame that is lent, to be stepped.
use Rattle.std.specs.Borrow.{Lends, MutBor, Fml}
use Rattle.laws_slots.specs.contracts.activation.WordActivation.{the_row as activation_row}
use Rattle.laws_slots.specs.declared.activation.WordActivation.{WordActivation}
use Rattle.machine_parts.specs.contracts.frame.Frame.{the_row as frame_row}
use Rattle.laws_slots.specs.Words.{WordFrame, WordRoutine}

-- the frame ends as that of the last value behind r
abbrev pub LendsActivation : MutBor WordFrame → MutBor WordActivation → Fml
LendsActivation f r = Lends frame_row activation_row f r (λ a. WordRoutine a)
