use Rattle.std.proofs.Common.{refl}
use Rattle.drvhost_devices.specs.Answer.{IsListing}
use Rattle.drvhost_devices.specs.Device.{Bytes}
use Rattle.answer.proofs.AsText.{of_source}
use Rattle.answer.proofs.list.list.Goals as goal

pub returns : goal.returns
returns c =
    let bytes = c.args.bytes.now in
    of_source (λ _. IsListing) _ (Bytes bytes) _ (bytes, refl, c.in_ok-answer_to.ensures)
