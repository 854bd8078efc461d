use Rattle.tell_uses.proofs.GoingOn.{tells_along}
use Rattle.tell_uses.proofs.laws.going_on_keeps_ledgers.Goals as goal

pub returns : goal.returns
returns c t k m n l threads events goes shows tells =
    (tells_along t m k n l threads events goes shows tells).tells
