use Rattle.std.proofs.Common.{◌∙◌}
use Rattle.hunt_exact.proofs.Fine.{none_amiss}
use Rattle.hunt_exact.proofs.amiss.is_amiss.Goals as goal

pub returns : goal.returns
returns c =
    none_amiss c.args.machine.now.set c.args.machine.now.world c.args.reply.now _ _ _ _ _
    c.stops-stop.ensures c.if-stop.false
    (c.deref.ensures.value ∙ c.in_ok-lost.ensures) (c.deref-2.ensures.value ∙ c.in_ok-left.ensures)
    (c.deref-3.ensures.value ∙ c.in_ok-ringed.ensures) c.is_fine-fine.ensures
