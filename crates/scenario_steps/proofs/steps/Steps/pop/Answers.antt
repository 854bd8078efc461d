use Rattle.std.proofs.Common.{length}
use Rattle.scenario_steps.proofs.Keeping.{in_popped}
use Rattle.scenario_steps.proofs.steps.Steps.pop.Goals as goal

pub invariant_of-self-2 : goal.invariant_of-self-2
invariant_of-self-2 c =
    in_popped (length c.self.inside.whole.items) c.pop.new.self.items c.in_ok-kept.kept
    (rw c.in_ok-kept.ensures.items at c.self.invariant)
