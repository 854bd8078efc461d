use Rattle.std.proofs.Common.{subst, ◌∙◌}
use Rattle.model.specs.Shown.{Shown}
use Rattle.model.specs.View.{packet_at}
use Rattle.machine.proofs.TellingWords.{words_packet}
use Rattle.machine.proofs.Whole.{run_shown}
use Rattle.machine.specs.Runs.{TellsOf}
use Rattle.machine.proofs.world.World.packet.Goals as goal

pub returns : goal.returns
returns c =
    subst (λ (m : Shown). TellsOf m (λ w. packet_at w c.args.number) c.packet.result) c.self.view_is
    (record {
      shown =
          run_shown c.words_show_what_they_mean.ensures c.self.inside.accepted c.self.inside.slots
          c.self.invariant.1.1;
      tells = λ threads events shows.
          (rw c.shared.ensures at c.packet.ensures)
          ∙ words_packet c.words_mean_what_they_show.ensures c.slots_show_what_they_mean.ensures
          c.words_tell_as_slots.ensures c.self.inside.accepted c.self.invariant.0
          c.self.invariant.1.0 c.self.inside.slots c.self.invariant.1.1 threads events shows
          c.args.number;
    })
