use Rattle.std.proofs.Common.{refl}
use Rattle.answer.proofs.AsText.{read_for}
use Rattle.drvhost_devices.specs.Device.{Bytes}
use Rattle.answer_explain.proofs.Explained.{IsWorded, explained_said}
use Rattle.answer_explain.proofs.explaining.explain.Goals as goal

pub returns : goal.returns
returns c =
    let extent = c.args.extent in
    let bytes = c.args.bytes.now in
    let is =
    read_for (IsWorded extent) _ (Bytes bytes) _ (bytes, refl, c.in_ok-answer_to.ensures) in
    (is.0, is.1, explained_said extent is.0 _ is.2)
