use Rattle.std.specs.Prelude.{take, map, ◌≡◌}
use Rattle.model.specs.Typable.{AreTypable}
use Rattle.verifier.specs.Certificates.{driver_certificates}
use Rattle.verifier.proofs.verdict.check_set.Given as goal

abbrev pub invariant-loop-number : goal.invariant-loop-number
invariant-loop-number l =
    AreTypable l.set l.number
    × (l.certificates.items ≡ map driver_certificates (take l.number l.drivers))
