use Rattle.std.proofs.Common.{◌+◌, ◌*◌}
use Rattle.mend_offers.proofs.offers.+mending.Given as goal

abbrev pub decreases-offers_at : goal.decreases-offers_at
decreases-offers_at l = 2 * l.turns + 1

abbrev pub decreases-offers_for : goal.decreases-offers_for
decreases-offers_for l = 2 * l.turns
