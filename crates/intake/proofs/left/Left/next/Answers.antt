use Rattle.intake.specs.Kept.{known}
use Rattle.intake.proofs.Knowing.{adds, some_of_all}
use Rattle.intake.proofs.Taking.{takes}
use Rattle.intake.proofs.left.Left.next.Goals as goal

pub pop_as-requires-clause-rule : goal.pop_as-requires-clause-rule
pop_as-requires-clause-rule g c =
    (takes _ _ (some_of_all (known c.self.inside.pass) c.self.invariant.1), adds _ _)

pub learn_as-requires-clause-rule : goal.learn_as-requires-clause-rule
learn_as-requires-clause-rule g c = adds _ _
