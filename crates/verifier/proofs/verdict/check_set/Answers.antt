use Rattle.std.proofs.Common.{◌≡◌, ◌∙◌, List, length, false, sym, ap}
use Rattle.std.specs.Prelude.{◌==◌}
use Rattle.std.proofs.lemmas.Bool.{eqb-false}
use Rattle.model.specs.declared.set.Device.{Device}
use Rattle.verifier.specs.Certificates.{driver_certificates}
use Rattle.verifier.proofs.Verdicts.{drivers_more, certificates_more, found_read, refusal_of_set}
use Rattle.verifier.proofs.verdict.check_set.Goals as goal

pub returns-in-Err-clause-refused : goal.returns-in-Err-clause-refused
returns-in-Err-clause-refused c =
    let some : (length c.devices.result.now == 0) ≡ false = sym c.is_empty.ensures
    ∙ c.if-is_empty.false in
    refusal_of_set c.args.set.now c.loop-number.number c.index-drivers-number.result
    c.in-Err.refusal
    (λ none. eqb-false (length c.devices.result.now) 0 some
    (ap (λ (devices : List Device). length devices) c.devices.ensures.devices ∙ none))
    (found_read c.drivers-drivers.result.now c.args.set.now.drivers c.loop-number.number
    c.index-drivers-number.result
    c.drivers-drivers.ensures.drivers c.loop-number-test.true c.index-drivers-number.is)
    c.loop-number.invariant.0
    (c.in-Err.ensures {u = tt}).refused

pub loop-number-preserved : goal.loop-number-preserved
loop-number-preserved c = (
  drivers_more c.args.set.now c.loop-number.number c.index-drivers-number.result
      c.loop-number.invariant.0
      (found_read c.drivers-drivers.result.now c.args.set.now.drivers c.loop-number.number
      c.index-drivers-number.result
      c.drivers-drivers.ensures.drivers c.loop-number-test.true c.index-drivers-number.is)
      (c.in-Ok.ensures {u = tt}).typable,
  certificates_more driver_certificates c.drivers-drivers.result.now c.loop-number.number
      c.index-drivers-number.result c.loop-number.certificates.items
      c.push.new.self.items c.in-Ok.of_driver c.loop-number-test.true c.loop-number.invariant.1
      c.index-drivers-number.is
      (c.in-Ok.ensures {u = tt}).certificates (c.in-Ok-push.ensures {u = tt}).items,
)
