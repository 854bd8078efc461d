use Rattle.std.proofs.Common.{◌≡◌, ◌+◌, ◌++◌, drop}
use Rattle.answer_mends.specs.Mend.{offers_text}
use Rattle.answer_mends.proofs.judged_offers.add_offers.Given as goal

abbrev pub invariant-loop-place : goal.invariant-loop-place
invariant-loop-place l =
    l.text.items ++ offers_text (l.place + 1) (drop l.place l.fn.offers)
    ≡ l.initial.text.items ++ offers_text 1 l.fn.offers
