use Rattle.std.proofs.Common.{length}
use Rattle.scenario_steps.proofs.Keeping.{in_pushed}
use Rattle.scenario_steps.proofs.steps.Steps.push_brief.Goals as goal

pub invariant_of-self-2 : goal.invariant_of-self-2
invariant_of-self-2 c =
    let n = length c.self.inside.whole.items in
    rw c.in_ok-push.ensures.items
    (in_pushed n c.self.inside.kept.items c.args.kept c.self.invariant (c.requires n))
