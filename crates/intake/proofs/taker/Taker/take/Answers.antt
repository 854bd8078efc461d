use Rattle.intake.specs.Kept.{KeepsTaker}
use Rattle.intake.proofs.Keeping.{took_kept}
use Rattle.intake.proofs.Knowing.{adds}
use Rattle.intake.proofs.Taking.{takes}
use Rattle.intake.proofs.taker.Taker.take.Goals as goal

pub pop_as-requires-clause-rule : goal.pop_as-requires-clause-rule
pop_as-requires-clause-rule g c = (takes _ _ c.self.invariant.some_share, adds _ _)

pub invariant_of-self-2 : goal.invariant_of-self-2
invariant_of-self-2 g c =
    let popped = c.in_ok-queued.ensures in
    took_kept c.self.inside.pass _ c.in_ok-queued.queued c.self.invariant popped.queue popped.rule

pub returns-clause-order : goal.returns-clause-order
returns-clause-order g c =
    let popped = c.in_ok-queued.ensures in
    let kept : KeepsTaker c.pop_as.new.pass =
    took_kept c.self.inside.pass _ c.in_ok-queued.queued c.self.invariant popped.queue
    popped.rule in
    kept.in_order
