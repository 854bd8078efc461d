use Rattle.std.proofs.Common.{inl, inr}
use Rattle.std.proofs.lemmas.Result.{err_from_is_err_and}
use Rattle.drvhost_devices.specs.declared.verification.Verification.TheVariants.{Required, Skipped}
use Rattle.drvhost_devices.specs.Answer.{IsTraced}
use Rattle.answer_scenarios.specs.Scenarios.{IsPlayedOf, right_of}
use Rattle.answer_scenarios.proofs.Told.{file_read, file_run, file_unread}
use Rattle.answer_scenarios.proofs.telling.tell_file.Goals as goal

pub returns-in_err-set-clause-tells : goal.returns-in_err-set-clause-tells
returns-in_err-set-clause-tells g c =
    let p = err_from_is_err_and c.from_residual.result c.from_residual.ensures.1 in
    rw (p.1, p.2)
    (file_unread (IsTraced c.args.plan.verification
    (IsPlayedOf (right_of c.args.plan.asked) c.args.bytes.now (g.P.Source.supply c.args.scenario.now)))
    c.args.bytes.now c.in_err-set.field-0.0 c.in_err-set.ensures.set)

pub returns-in-Required-clause-tells : goal.returns-in-Required-clause-tells
returns-in-Required-clause-tells g c =
    rw c.in-Required.is
    (file_read (IsTraced Required
    (IsPlayedOf (right_of c.args.plan.asked) c.args.bytes.now (g.P.Source.supply c.args.scenario.now)))
    c.args.bytes.now c.in_ok-set.set c.tell_verified.result c.in_ok-set.ensures.set
    c.tell_verified.ensures.tells)

pub returns-in-Required-clause-unread : goal.returns-in-Required-clause-unread
returns-in-Required-clause-unread g c =
    elim c.tell_verified.ensures.unread [
      | inl same ↦ inl same
      | inr typable ↦ inr (rw c.in-Required.is
          (file_run Required c.args.bytes.now c.in_ok-set.set c.in_ok-set.ensures.set typable))
    ]

pub returns-in-Skipped-clause-tells : goal.returns-in-Skipped-clause-tells
returns-in-Skipped-clause-tells g c =
    rw c.in-Skipped.is
    (file_read (IsTraced Skipped
    (IsPlayedOf (right_of c.args.plan.asked) c.args.bytes.now (g.P.Source.supply c.args.scenario.now)))
    c.args.bytes.now c.in_ok-set.set c.tell_set.result c.in_ok-set.ensures.set
    c.tell_set.ensures.tells)

pub returns-in-Skipped-clause-unread : goal.returns-in-Skipped-clause-unread
returns-in-Skipped-clause-unread g c =
    inr (rw c.in-Skipped.is
    (file_run Skipped c.args.bytes.now c.in_ok-set.set c.in_ok-set.ensures.set tt))
