use Rattle.std.proofs.Common.{subst, ◌∙◌}
use Rattle.model.specs.Shown.{Shown}
use Rattle.model.specs.View.{due_at}
use Rattle.machine.proofs.TellingWords.{words_due}
use Rattle.machine.proofs.Whole.{run_shown}
use Rattle.machine.specs.Runs.{TellsOf}
use Rattle.machine.proofs.world.World.due.Goals as goal

pub returns : goal.returns
returns c =
    subst (λ (m : Shown). TellsOf m (λ w. due_at w c.args.device) c.due.result) c.self.view_is
    (record {
      shown =
          run_shown c.words_show_what_they_mean.ensures c.self.inside.accepted c.self.inside.slots
          c.self.invariant.1.1;
      tells = λ threads events shows.
          c.due.ensures
          ∙ words_due c.words_mean_what_they_show.ensures c.slots_show_what_they_mean.ensures
          c.words_tell_as_slots.ensures c.self.inside.accepted c.self.invariant.0
          c.self.invariant.1.0 c.self.inside.slots c.self.invariant.1.1 threads events shows
          c.args.device;
    })
