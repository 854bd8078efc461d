use Rattle.verifier.specs.Certificates.{routine_certificate}
use Rattle.verifier.proofs.Verdicts.{routines_more, certificates_more, found_read, refusal_of_driver}
use Rattle.verifier.proofs.verdict.check_driver.Goals as goal

pub returns-in-Err-clause-refused : goal.returns-in-Err-clause-refused
returns-in-Err-clause-refused c =
    refusal_of_driver c.args.set.now c.args.driver_number c.args.driver.now c.loop-number.number
    c.index-routines-number.result c.in-Err.refusal
    (found_read c.as_slice-routines.result.now c.args.driver.now.routines c.loop-number.number
    c.index-routines-number.result
    c.as_slice-routines.ensures c.loop-number-test.true c.index-routines-number.is)
    c.loop-number.invariant.0
    (c.in-Err.ensures {u = tt}).refused

pub loop-number-preserved : goal.loop-number-preserved
loop-number-preserved c = (
  routines_more c.args.set.now c.args.driver_number c.args.driver.now c.loop-number.number
      c.index-routines-number.result c.loop-number.invariant.0
      (found_read c.as_slice-routines.result.now c.args.driver.now.routines c.loop-number.number
      c.index-routines-number.result
      c.as_slice-routines.ensures c.loop-number-test.true c.index-routines-number.is)
      (c.in-Ok.ensures {u = tt}).typable,
  certificates_more routine_certificate c.as_slice-routines.result.now c.loop-number.number
      c.index-routines-number.result c.loop-number.certificates.items
      c.push.new.self.items c.in-Ok.checked.certificate c.loop-number-test.true c.loop-number.invariant.1
      c.index-routines-number.is
      (c.in-Ok.ensures {u = tt}).certificate (c.in-Ok-push.ensures {u = tt}).items,
)
