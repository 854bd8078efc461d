-- What the offers of mends for a driver set are worth.
use Rattle.std.specs.Prelude.{ℕ, ⊤, ◌≡◌, ◌+◌, ◌<◌, ◌≤◌, ◌⊎◌, List, [], ◌∷◌, All, length, Option, None, Some}
use Rattle.std.specs.Prelude.{unwrap_or}
use Rattle.model.specs.declared.abs.Refusal.{Refusal}
use Rattle.model.specs.Set.{Set}
use Rattle.model.specs.Typable.{IsFirstFault, IsTypable}
use Rattle.mend_changes.specs.declared.edit.Change.TheVariants.{Delete}
use Rattle.mend_changes.specs.declared.edit.Edit.{Edit}
use Rattle.mend_changes.specs.Edited.{EachMakes, IsStopped, edited_by}
use Rattle.mend_offers.specs.declared.offers.Ending.{Ending}
use Rattle.mend_offers.specs.declared.offers.Ending.TheVariants.{Accepted, Refused}
use Rattle.mend_offers.specs.declared.offers.Mending.{Mending}
use Rattle.mend_offers.specs.declared.offers.Offer.{Offer}
use Rattle.mend_offers.specs.declared.offers.Offers.{Offers}

-- a refusal speaks of a later routine than another one
abbrev pub IsLater : Refusal → Refusal → Type 0
IsLater later refusal =
    (refusal.driver < later.driver)
    ⊎ ((later.driver ≡ refusal.driver) × (refusal.routine < later.routine))

-- what is left of a set's faults where that of a refusal is mended: none, or its first fault is in
-- a later routine
abbrev pub IsLeft : Set → Refusal → Option Refusal → Type 0
IsLeft set refusal None = IsTypable set
IsLeft set refusal (Some left) = IsFirstFault set left × IsLater left refusal

-- edits make a set of which this is left
abbrev pub Leaves : Option Set → Refusal → Option Refusal → Type 0
Leaves None refusal left = ⊥
Leaves (Some made) refusal left = IsLeft made refusal left

pub record IsOffer (set : Set) (refusal : Refusal) (offer : Offer) : Type 0 where
  pub each : EachMakes set offer.edits
  pub leaves : Leaves (edited_by set offer.edits) refusal offer.left

-- a set has its first fault in the routine of a refusal, or before it
abbrev pub IsKept : Set → Refusal → Type 0
IsKept made refusal =
    (left : Refusal) × IsFirstFault made left × (IsLater left refusal → ⊥)

-- edits make no set, or one in which a fault is kept
abbrev pub IsUnmended : Set → Refusal → List Edit → Type 0
IsUnmended set refusal edits =
    IsStopped set edits ⊎ ((made : Set) × (edited_by set edits ≡ Some made) × IsKept made refusal)

-- an instruction of the routine of a refusal is taken out
abbrev pub taken_out : Refusal → ℕ → List Edit
taken_out refusal at =
    record { driver = refusal.driver; routine = refusal.routine; at = at; change = Delete } ∷ []

-- none of its first ones can be taken out alone to mend it, nor any up to the fault
abbrev pub IsUnmendedBelow : Set → Refusal → ℕ → Type 0
IsUnmendedBelow set refusal count =
    (at : ℕ) → at < count → IsUnmended set refusal (taken_out refusal at)

abbrev pub NoneTakenOut : Set → Refusal → Type 0
NoneTakenOut set refusal = IsUnmendedBelow set refusal (refusal.at + 1)

-- at most three of them, each of which is one
abbrev pub AreOffers : Set → Refusal → List Offer → Type 0
AreOffers set refusal offers = All (IsOffer set refusal) offers × (length offers ≤ 3)

-- where nothing is offered, nothing can be taken out alone either
pub record IsWhole (set : Set) (refusal : Refusal) (offers : List Offer) : Type 0 where
  pub are : AreOffers set refusal offers
  pub none : offers ≡ [] → NoneTakenOut set refusal

-- the set that the first offer makes of a set, if there is an offer
abbrev pub after_first : Set → List Offer → Set
after_first set [] = set
after_first set (offer ∷ offers) = unwrap_or (edited_by set offer.edits) set

-- mendings take the first faults of a set by turns, each behind the first offer of the one before,
-- and such a fact holds of the offers of each
abbrev pub LeadWith : (Set → Refusal → List Offer → Type 0) → Set → List Mending → Set → Type 0
LeadWith P set [] last = set ≡ last
LeadWith P set (mending ∷ mendings) last =
    IsFirstFault set mending.refusal
    × P set mending.refusal mending.offers
    × LeadWith P (after_first set mending.offers) mendings last

abbrev pub Lead : Set → List Mending → Set → Type 0
Lead set mendings last = LeadWith AreOffers set mendings last

-- the same of mendings that may lead anywhere
abbrev pub AreOffersOf : Set → List Mending → Type 0
AreOffersOf set [] = ⊤
AreOffersOf set (mending ∷ mendings) =
    IsFirstFault set mending.refusal
    × AreOffers set mending.refusal mending.offers
    × AreOffersOf (after_first set mending.offers) mendings

-- the set behind all first offers, and what the verifier says of it
abbrev pub set_at : Ending → Set
set_at (Accepted set) = set
set_at (Refused set refusal) = set

abbrev pub IsEnding : Ending → Type 0
IsEnding (Accepted set) = IsTypable set
IsEnding (Refused set refusal) = IsFirstFault set refusal

abbrev pub AreAllOffersOf : Set → Offers → Type 0
AreAllOffersOf set offers =
    LeadWith IsWhole set offers.mendings (set_at offers.ending) × IsEnding offers.ending
