use Rattle.std.specs.Prelude.{take, map, ◌≡◌}
use Rattle.model.specs.Typable.{AreTypableRoutines}
use Rattle.verifier.specs.Certificates.{routine_certificate}
use Rattle.verifier.proofs.verdict.check_driver.Given as goal

abbrev pub invariant-loop-number : goal.invariant-loop-number
invariant-loop-number l =
    AreTypableRoutines l.set l.driver_number l.driver l.number
    × (l.certificates.items ≡ map routine_certificate (take l.number l.routines))
