use Rattle.std.proofs.Common.{subst, ◌∙◌}
use Rattle.model.specs.Run.{run}
use Rattle.model.specs.Shown.{Shown}
use Rattle.laws_slots.specs.ShownSlots.{meant_shared}
use Rattle.machine.proofs.Telling.{tells_field}
use Rattle.machine.proofs.Whole.{run_shown}
use Rattle.machine.specs.Read.{field_at}
use Rattle.machine.specs.Runs.{TellsOf}
use Rattle.machine.proofs.world.World.field.Goals as goal

pub returns : goal.returns
returns c =
    subst (λ (m : Shown). TellsOf m (λ w. field_at w c.args.number c.args.field) c.field.result) c.self.view_is
    (record {
      shown =
          run_shown c.words_show_what_they_mean.ensures c.self.inside.accepted c.self.inside.slots
          c.self.invariant.1.1;
      tells = λ threads events shows.
          (rw c.shared.ensures at c.field.ensures)
          ∙ tells_field (meant_shared c.self.inside.slots.shared)
          (run c.self.inside.accepted threads events).world shows.packets shows.issued
          c.args.number c.args.field;
    })
