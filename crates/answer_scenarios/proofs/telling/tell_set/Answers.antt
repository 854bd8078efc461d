use Rattle.std.proofs.Common.{List, subst, sym, ℕ}
use Rattle.std.proofs.lemmas.Result.{err_from_is_err_and}
use Rattle.drvhost_devices.specs.Device.{Holds}
use Rattle.answer_scenarios.specs.Scenarios.{IsPlayedOf, right_of}
use Rattle.answer_scenarios.proofs.Told.{tells_held, tells_unread}
use Rattle.answer_scenarios.proofs.telling.tell_set.Goals as goal

pub returns-in_err-text-clause-tells : goal.returns-in_err-text-clause-tells
returns-in_err-text-clause-tells g c =
    let p = err_from_is_err_and c.from_residual.result c.from_residual.ensures.1 in
    rw (p.1, p.2)
    (tells_unread (IsPlayedOf (right_of c.args.asked) c.args.bytes.now
    (g.P.Source.supply c.args.scenario.now) c.args.set.now) c.in_err-text.field-0.0
    c.in_err-text.ensures.fault)

pub returns-clause-tells : goal.returns-clause-tells
returns-clause-tells g c =
    let held = g.P.Source.supply c.args.scenario.now in
    let text = c.as_slice.result.now in
    let holds = subst (λ (bytes : List ℕ). Holds held bytes) (sym c.as_slice.ensures.value)
    c.in_ok-text.ensures.bytes in
    tells_held (right_of c.args.asked) c.args.bytes.now text held c.args.set.now c.tell_text.result
    holds c.tell_text.ensures.tells
