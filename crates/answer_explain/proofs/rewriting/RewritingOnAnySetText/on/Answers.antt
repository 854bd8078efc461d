use Rattle.std.proofs.Common.{◌∙◌, ap}
use Rattle.drvhost_devices.specs.Answer.{ended}
use Rattle.drvhost_devices.specs.declared.fault.End.TheVariants.{Complete}
use Rattle.answer_explain.proofs.rewriting.RewritingOnAnySetText.on.Goals as goal

pub returns-in-Ok : goal.returns-in-Ok
returns-in-Ok c =
    (c.drivers-sound.ensures.sound, c.ended.ensures ∙ ap (ended Complete) c.in-Ok.ensures.1)
