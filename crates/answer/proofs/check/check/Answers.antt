use Rattle.std.proofs.Common.{refl}
use Rattle.drvhost_devices.specs.Answer.{IsVerdict}
use Rattle.drvhost_devices.specs.Device.{Bytes}
use Rattle.answer.proofs.AsText.{of_source}
use Rattle.answer.proofs.check.check.Goals as goal

pub returns : goal.returns
returns c =
    let bytes = c.args.bytes.now in
    of_source (λ _. IsVerdict) _ (Bytes bytes) _ (bytes, refl, c.in_ok-answer_to.ensures)
