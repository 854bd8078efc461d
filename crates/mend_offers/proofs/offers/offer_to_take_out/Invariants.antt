use Rattle.mend_offers.specs.Offers.{IsUnmendedBelow}
use Rattle.mend_offers.proofs.offers.offer_to_take_out.Given as goal

-- none of those before the position mends anything
abbrev pub invariant-loop-at : goal.invariant-loop-at
invariant-loop-at l = IsUnmendedBelow l.set l.refusal l.at
