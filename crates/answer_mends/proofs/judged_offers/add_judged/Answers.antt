use Rattle.std.proofs.Common.{rules, ◌≡◌, List, string_bytes, subst, sym, true}
use Rattle.std.proofs.lemmas.List.Elements.{All-push}
use Rattle.text.specs.Cut.{lines_of}
use Rattle.answer_mends.specs.declared.judged_offers.Offer.{Offer}
use Rattle.answer_mends.specs.Mend.{AreOffers, IsOffer, Makes, are_words}
use Rattle.answer_mends.proofs.judged_offers.add_judged.Goals as goal

pub returns-in_ok-push : goal.returns-in_ok-push
returns-in_ok-push c =
    let refusal = c.args.refusal.now in
    let text = c.args.text.now in
    let proposal = c.args.proposal in
    let judged = c.in-Some.judged in
    let offer : Offer = record {
      extent = judged.extent;
      words = proposal.words;
      sentences = proposal.sentences;
      diff = proposal.diff;
      made = judged.made;
    } in
    let told : are_words (lines_of c.as_bytes.result.now) ≡ true = search rules in
    let found : Makes judged.extent refusal text c.as_bytes-2.result.now judged.made = search rules
    in
    let worded : are_words (lines_of (string_bytes proposal.words)) ≡ true =
    rw c.as_bytes.ensures.value at told in
    let makes : Makes judged.extent refusal text (string_bytes proposal.diff) judged.made =
    rw c.as_bytes-2.ensures.value at found in
    let A : List Offer → Type 0 = AreOffers refusal text in
    subst A (sym c.in_ok-push.ensures.items)
    (All-push (IsOffer refusal text) c.args.offers.now.items offer c.requires (worded, makes))
