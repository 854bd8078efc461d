use Rattle.std.proofs.Common.{◌+◌, ◌*◌}
use Rattle.mend_offers.proofs.advice.+advising.Given as goal

abbrev pub decreases-likely_at : goal.decreases-likely_at
decreases-likely_at l = 2 * l.turns + 1

abbrev pub decreases-likely_for : goal.decreases-likely_for
decreases-likely_for l = 2 * l.turns
