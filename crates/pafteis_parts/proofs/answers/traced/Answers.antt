use Rattle.std.proofs.Common.{◌∙◌, Some, ap, arith}
use Rattle.drvhost_devices.specs.Device.{Bytes}
use Rattle.drvhost_devices.specs.Ends.{IsTraceOf}
use Rattle.drvhost_devices.proofs.Collected.{both_right}
use Rattle.pafteis_parts.proofs.answers.traced.Goals as goal

pub returns : goal.returns
returns c =
    both_right (IsTraceOf c.args.verification (Bytes c.args.set.now) (Bytes c.args.schedule.now))
    _ _ _ _ _ _ _ _ _ _ _ _ _
    (rw (c.new-source.ensures.supply, c.new-events.ensures.supply) at c.trace-exit.ensures.answers)
    (omega (arith, c.failures.ensures, c.if-failures-gt0.false))
    (omega (arith, c.failures-else-failures-gt0.ensures, c.if-failures-gt0-2.false))
    c.collected.ensures
    (omega (arith, c.new-source.ensures.failures, c.new-events.ensures.failures))
    c.new-output.ensures.failures c.new-errors.ensures.failures
    (c.new-output.ensures.contents ∙ ap (λ l. Some l) c.new.ensures.items)
    (c.new-errors.ensures.contents ∙ ap (λ l. Some l) c.new-2.ensures.items)
