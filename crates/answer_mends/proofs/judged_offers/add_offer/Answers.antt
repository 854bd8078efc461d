use Rattle.std.proofs.Common.{string_bytes}
use Rattle.answer_mends.specs.Mend.{diff_shown, offer_head}
use Rattle.answer_mends.proofs.Mends.{offer_added}
use Rattle.answer_mends.proofs.judged_offers.add_offer.Goals as goal

pub returns : goal.returns
returns c =
    let offer = c.args.offer.now in
    offer_added c.add_diff.result c.args.text.now.items (offer_head offer.extent c.args.number)
    (string_bytes offer.words) (diff_shown (string_bytes offer.diff)) c.add_head.new.text.items
    c.extend_from_slice.new.self.items c.add_diff.new.text.items c.in_ok-add_head.ensures
    (rw c.as_bytes.ensures.value at c.in_ok-extend_from_slice.ensures.items)
    (rw c.as_bytes-2.ensures.value at c.add_diff.ensures)
