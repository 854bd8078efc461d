use Rattle.laws_runs.proofs.Prelude.{refl}
use Rattle.laws_runs.proofs.a_mark_is_carried_up.Goals as goal

pub returns : goal.returns
returns c = record {
  upper_left = refl;
  lower_left = refl;
  upper_returned = refl;
  lower_returned =
      refl;
}
