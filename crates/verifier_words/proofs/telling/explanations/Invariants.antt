use Rattle.verifier_words.specs.Faults.{AreBefore, refusals}
use Rattle.verifier_words.proofs.telling.explanations.Given as goal

abbrev pub invariant-loop-number : goal.invariant-loop-number
invariant-loop-number l = AreBefore l.set l.number (refusals l.all.items)
