use Rattle.std.proofs.Common.{◌≡◌, ◌++◌, drop}
use Rattle.json.specs.Tree.{items_tokens}
use Rattle.answer_mends.specs.Json.{offers_json}
use Rattle.answer_mends.proofs.as_json.write_offers.Given as goal

abbrev pub invariant-loop-offer : goal.invariant-loop-offer
invariant-loop-offer l =
    (l.out.before ≡ l.fn.out.before)
    × (l.out.tokens ++ items_tokens (offers_json (drop l.offer-index l.offers))
    ≡ l.fn.out.tokens ++ items_tokens (offers_json l.offers))
