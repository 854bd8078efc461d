use Rattle.verifier.specs.Survey.{ArePaired}
use Rattle.verifier.proofs.loops.pair.Given as goal

abbrev pub invariant-loop-at : goal.invariant-loop-at
invariant-loop-at l = ArePaired l.code l.at l.places.items l.round
