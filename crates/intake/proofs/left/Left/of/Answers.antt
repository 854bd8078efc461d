use Rattle.intake.proofs.Knowing.{adds}
use Rattle.intake.proofs.left.Left.of.Goals as goal

pub learn_as-requires-clause-rule : goal.learn_as-requires-clause-rule
learn_as-requires-clause-rule c = adds _ _
