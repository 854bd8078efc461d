-- What an offer is worth that is advised for a refusal.
use Rattle.std.specs.Prelude.{◌≡◌, List}
use Rattle.model.specs.declared.abs.Refusal.{Refusal}
use Rattle.model.specs.Set.{Set}
use Rattle.model.specs.Typable.{IsFirstFault}
use Rattle.mend_offers.specs.declared.offers.Mending.{Mending}
use Rattle.mend_offers.specs.declared.offers.Offer.{Offer}
use Rattle.mend_offers.specs.declared.offers.Standing.TheVariants.{Sure}
use Rattle.mend_offers.specs.Offers.{IsOffer, Lead}

-- mendings lead from a set to one whose first fault a refusal tells; and of that one an offer that
-- is sure makes a set which is accepted, or whose first fault is in a later routine
abbrev pub IsAdvised : Set → Refusal → Offer → Type 0
IsAdvised set refusal offer =
    (before : List Mending) × (at : Set) × Lead set before at × IsFirstFault at refusal
    × IsOffer at refusal offer × (offer.standing ≡ Sure)
