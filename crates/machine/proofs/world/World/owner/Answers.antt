use Rattle.std.proofs.Common.{ap, subst, ◌∙◌}
use Rattle.model.specs.Shown.{Shown}
use Rattle.model.specs.World.{Locks, owner_of}
use Rattle.machine.proofs.Whole.{run_shown}
use Rattle.machine.specs.Read.{owner_at}
use Rattle.machine.specs.Runs.{TellsOf}
use Rattle.machine.proofs.world.World.owner.Goals as goal

pub returns : goal.returns
returns c =
    subst (λ (m : Shown). TellsOf m (λ w. owner_at w c.args.lock) c.owner.result) c.self.view_is
    (record {
      shown =
          run_shown c.words_show_what_they_mean.ensures c.self.inside.accepted c.self.inside.slots
          c.self.invariant.1.1;
      tells = λ threads events shows.
          (rw c.shared.ensures at c.owner.ensures)
          ∙ ap (λ (locks : Locks). owner_of locks c.args.lock) shows.locks;
    })
