use Rattle.answer_explain.proofs.Breaks.{IsApartTo}
use Rattle.answer_explain.proofs.explaining.unbroken.Given as goal

abbrev pub invariant-loop-end : goal.invariant-loop-end
invariant-loop-end l = IsApartTo l.words l.end
