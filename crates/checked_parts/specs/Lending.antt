-- The routine of a frame that is lent, to be stepped.
use Rattle.std.specs.Borrow.{Lends, MutBor, Fml}
use Rattle.model.specs.contracts.world.Activation.{the_row as activation_row}
use Rattle.model.specs.declared.world.Activation.{Activation}
use Rattle.model.specs.declared.world.Frame.{Frame}
use Rattle.model.specs.declared.world.Frame.TheVariants.{Routine}
use Rattle.checked_parts.specs.contracts.frame.Frame.{the_row as frame_row}

-- the frame ends as that of the last value behind r
abbrev pub LendsActivation : MutBor Frame → MutBor Activation → Fml
LendsActivation f r = Lends frame_row activation_row f r (λ a. Routine a)
