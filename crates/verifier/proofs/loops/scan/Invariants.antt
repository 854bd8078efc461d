use Rattle.verifier.specs.Survey.{IsScanned}
use Rattle.verifier.proofs.loops.scan.Given as goal

abbrev pub invariant-loop-at : goal.invariant-loop-at
invariant-loop-at l = IsScanned l.code l.at l.opened l.unclosed l.innermost
