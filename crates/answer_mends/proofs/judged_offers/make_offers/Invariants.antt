use Rattle.answer_mends.specs.Mend.{AreOffers}
use Rattle.answer_mends.proofs.judged_offers.make_offers.Given as goal

-- what was added are offers
abbrev pub invariant-loop-choice : goal.invariant-loop-choice
invariant-loop-choice l =
    (goal.iterator-loop-choice).can_next l.choice-iterator
    × (goal.iterator-loop-choice).is_finite l.choice-iterator
    × AreOffers l.fn.refusal l.fn.text l.offers.items
