use Rattle.verifier.specs.Survey.{ArePlaced}
use Rattle.verifier.proofs.loops.place_all.Given as goal

abbrev pub invariant-loop-at : goal.invariant-loop-at
invariant-loop-at l = ArePlaced l.code l.at l.places.items
