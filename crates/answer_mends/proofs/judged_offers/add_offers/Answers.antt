use Rattle.std.proofs.Common.{◌∙◌, ◌+◌, ◌++◌, ap, drop, sym}
use Rattle.std.proofs.lemmas.List.{at_drop_more}
use Rattle.answer.proofs.Lines.{added}
use Rattle.answer_mends.specs.Mend.{offer_text, offers_text}
use Rattle.answer_mends.proofs.judged_offers.add_offers.Goals as goal

pub loop-place-preserved : goal.loop-place-preserved
loop-place-preserved c =
    let offers = c.args.offers.now in
    let place = c.loop-place.place in
    let later = offers_text (place + 1 + 1) (drop (place + 1) offers) in
    let next = at_drop_more (offers_text (place + 1)) offers place c.index-offers-place.result
    c.loop-place-test.true
    ∙ ap (λ o. offer_text (place + 1) o ++ later) (sym c.index-offers-place.is) in
    rw c.in_ok-add_offer.ensures (added _ _ _ _ _ next c.loop-place.invariant)
