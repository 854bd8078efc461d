use Rattle.std.proofs.Common.{◌∙◌, ap, subst, sym}
use Rattle.model.specs.Shown.{Shown}
use Rattle.machine.proofs.Lending.{has_slots}
use Rattle.machine.proofs.OverSlots.{number_is}
use Rattle.machine.specs.Slots.{HasSlots, number_at}
use Rattle.machine.proofs.world.World.number.Goals as goal

pub returns-clause-number : goal.returns-clause-number
returns-clause-number c =
    c.number.ensures
    ∙ sym (number_is c.self.inside.accepted c.self.inside.slots c.args.slot)
    ∙ ap (λ (m : Shown). number_at m c.args.slot) c.self.view_is

pub returns-clause-slots : goal.returns-clause-slots
returns-clause-slots c =
    subst (λ (m : Shown). HasSlots m) c.self.view_is
    (has_slots c.words_mean_what_they_show.ensures c.words_show_what_they_mean.ensures
    c.self.inside.accepted c.self.invariant.0 c.self.invariant.1.0 c.self.inside.slots
    c.self.invariant.1.1)
