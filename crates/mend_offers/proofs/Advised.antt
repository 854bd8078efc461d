-- The first offer for one of the faults that mendings take by turns.
use Rattle.std.proofs.Common.{◌≡◌, ℕ, zero, suc, List, [], ◌∷◌, Some, arith, refl, subst}
use Rattle.std.specs.Prelude.{All, slice_get}
use Rattle.model.specs.declared.abs.Refusal.{Refusal}
use Rattle.model.specs.Set.{Set}
use Rattle.model.specs.Typable.{IsFirstFault}
use Rattle.mend_offers.specs.declared.offers.Mending.{Mending}
use Rattle.mend_offers.specs.declared.offers.Offer.{Offer}
use Rattle.mend_offers.specs.declared.offers.Standing.TheVariants.{Sure}
use Rattle.mend_offers.specs.Offers.{AreOffersOf, IsOffer, after_first}
use Rattle.mend_offers.specs.Advice.{IsAdvised}

-- what holds of all offers holds of the first
first_is : (set : Set) (refusal : Refusal) (offers : List Offer) (offer : Offer)
    → All (IsOffer set refusal) offers → slice_get offers 0 ≡ Some offer → IsOffer set refusal offer
first_is set refusal [] offer all is = absurd (cc is)
first_is set refusal (o ∷ os) offer all is =
    let same : o ≡ offer = cc in
    subst (IsOffer set refusal) same (all 0 o (omega arith))

pub advised : (set : Set) (mendings : List Mending) (place : ℕ) (mending : Mending)
    (offer : Offer) → AreOffersOf set mendings → slice_get mendings place ≡ Some mending
    → slice_get mending.offers 0 ≡ Some offer → offer.standing ≡ Sure
    → IsAdvised set mending.refusal offer
advised set [] place mending offer lead is first sure = absurd (cc is)
advised set (m ∷ ms) zero mending offer (fault, are, lead) is first sure =
    let same : m ≡ mending = cc in
    let offers = subst (λ (m : Mending). All (IsOffer set m.refusal) m.offers) same are.0 in (
      [],
      set,
      refl,
      subst (λ (m : Mending). IsFirstFault set m.refusal) same fault,
      first_is set mending.refusal mending.offers offer offers first,
      sure,
    )
advised set (m ∷ ms) (suc place) mending offer (fault, are, lead) is first sure =
    let (before, at, leads, of, is_one, its) =
    advised (after_first set m.offers) ms place mending offer lead is first sure in
    (m ∷ before, at, (fault, are, leads), of, is_one, its)
