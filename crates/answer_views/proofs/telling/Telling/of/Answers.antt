use Rattle.std.proofs.Common.{refl}
use Rattle.answer_views.proofs.telling.Telling.of.Goals as goal

pub returns-in-Ok-clause-begun : goal.returns-in-Ok-clause-begun
returns-in-Ok-clause-begun c =
    λ set.
    record {
      detail = refl;
      numbered = c.in-Ok.ensures.number;
      told = c.in-Ok.ensures.text;
      refused = refl;
      tells = rw c.of-in-Ok.ensures (c.in_ok-ledger.ensures set);
    }
