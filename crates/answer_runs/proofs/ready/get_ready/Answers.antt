use Rattle.std.proofs.Common.{Ok, refl}
use Rattle.std.proofs.lemmas.Result.{err_from_is_err_and}
use Rattle.drvhost_devices.specs.declared.fault.End.TheVariants.{Stopped}
use Rattle.answer_runs.proofs.Readying.{unserved_refused, unserved_script}
use Rattle.answer_runs.proofs.ready.get_ready.Goals as goal

pub returns-in_err-with_script-in-Ok-clause-ready
    : goal.returns-in_err-with_script-in-Ok-clause-ready
returns-in_err-with_script-in-Ok-clause-ready g c =
    let p = err_from_is_err_and c.from_residual-in_err-with_script-in-Ok.result
    c.from_residual-in_err-with_script-in-Ok.ensures.1 in
    rw (p.1, p.2)
    (unserved_script _ _ c.in_ok-set.set c.read_set.new.self.lines
    c.in_err-with_script-in-Ok.field-0.0
    c.in_ok-set.ensures.set c.in-Ok.ensures.accepted.1 c.in_err-with_script-in-Ok.ensures.fault)

pub returns-in_ok-refuse-in-Err-clause-ready : goal.returns-in_ok-refuse-in-Err-clause-ready
returns-in_ok-refuse-in-Err-clause-ready g c = (
  unserved_refused _ _ c.in_ok-set.set c.in-Err.refusal _ (Ok Stopped) c.in_ok-set.ensures.set
      c.in-Err.ensures.refused.1 (
        refl,
        c.in_ok-refuse-in-Err.ensures.refused.0,
        rw c.read_set.ensures.empty.lines at c.in_ok-refuse-in-Err.ensures.refused.1,
      )
      tt,
  c.read_set.ensures.empty.words,
)
