use Rattle.std.proofs.Common.{refl, ◌∙◌}
use Rattle.pafteis_world.proofs.reading.request_in.Goals as goal

pub returns : goal.returns
returns c =
    record {
      shown = c.field-argument.ensures.shown;
      tells = λ threads events shows.
          c.request_of.ensures
          ∙ rw (
            c.field-argument.ensures.tells threads events shows,
            c.field-info.ensures.tells threads events shows,
            c.field-major.ensures.tells threads events shows,
          ) refl;
    }
