use Rattle.std.proofs.Common.{rules, ◌≡◌, Some, slice_get, refl, subst}
use Rattle.std.proofs.lemmas.Option.{slice_get_read}
use Rattle.model.specs.declared.abs.Refusal.{Refusal}
use Rattle.mend_offers.specs.declared.offers.Standing.TheVariants.{Sure}
use Rattle.mend_offers.specs.Advice.{IsAdvised}
use Rattle.mend_offers.proofs.Advised.{advised}
use Rattle.mend_offers.proofs.sure.sure_offer.Goals as goal

pub returns-then-eq : goal.returns-then-eq
returns-then-eq c =
    let set = c.args.set.now in
    let items = c.args.mendings.now in
    let mending = c.mending-item.result in
    let offer = c.in_ok-first.first.now in
    let is : slice_get items c.loop-mending.mending-index ≡ Some mending =
    slice_get_read items _ _ mending refl c.loop-mending-test.true c.mending-item.is in
    let first : slice_get mending.offers 0 ≡ Some offer = search rules in
    let sure : offer.standing ≡ Sure = search rules in
    let same : mending.refusal ≡ c.args.refusal.now = search rules in
    subst (λ (r : Refusal). IsAdvised set r offer) same
    (advised set items _ mending offer c.requires is first sure)
