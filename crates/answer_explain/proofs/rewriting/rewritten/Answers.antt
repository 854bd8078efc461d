use Rattle.std.proofs.Common.{refl}
use Rattle.answer.proofs.AsText.{of_source}
use Rattle.drvhost_devices.specs.Answer.{IsRewritten}
use Rattle.drvhost_devices.specs.Device.{Bytes}
use Rattle.answer_explain.proofs.rewriting.rewritten.Goals as goal

pub returns : goal.returns
returns c =
    let bytes = c.args.bytes.now in
    of_source (λ _. IsRewritten) _ (Bytes bytes) _ (bytes, refl, c.in_ok-answer_to.ensures)
