use Rattle.mend_offers.specs.Offers.{AreOffers}
use Rattle.mend_offers.proofs.offers.offers_found.Given as goal

abbrev pub invariant-loop-place : goal.invariant-loop-place
invariant-loop-place l = AreOffers l.set l.refusal l.offers.items
