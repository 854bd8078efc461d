use Rattle.std.proofs.Common.{List, ap, subst, ◌∙◌}
use Rattle.std.specs.Prelude.{slice_get}
use Rattle.model.specs.declared.world.Cells.{Cells}
use Rattle.model.specs.Shown.{Shown}
use Rattle.machine.proofs.Whole.{run_shown}
use Rattle.machine.specs.Read.{cells_at}
use Rattle.machine.specs.Runs.{TellsOf}
use Rattle.machine.proofs.world.World.cells.Goals as goal

pub returns : goal.returns
returns c =
    subst (λ (m : Shown). TellsOf m (λ w. cells_at w c.args.device) c.cells.result) c.self.view_is
    (record {
      shown =
          run_shown c.words_show_what_they_mean.ensures c.self.inside.accepted c.self.inside.slots
          c.self.invariant.1.1;
      tells = λ threads events shows.
          (rw c.shared.ensures at c.cells.ensures)
          ∙ ap (λ (cells : List Cells). slice_get cells c.args.device) shows.cells;
    })
