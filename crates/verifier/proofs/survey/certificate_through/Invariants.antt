use Rattle.verifier.specs.Pass.{AreSums}
use Rattle.verifier.proofs.survey.certificate_through.Given as goal

abbrev pub invariant-loop-p : goal.invariant-loop-p
invariant-loop-p l = AreSums l.code l.p l.sums.items
