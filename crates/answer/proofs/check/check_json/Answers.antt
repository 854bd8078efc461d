use Rattle.std.proofs.Common.{refl}
use Rattle.drvhost_devices.specs.Device.{Bytes}
use Rattle.answer.proofs.Checking.{json_for}
use Rattle.answer.proofs.check.check_json.Goals as goal

pub returns : goal.returns
returns c =
    let bytes = c.args.bytes.now in
    json_for c.args.name.now (Bytes bytes) _ (bytes, refl, c.in_ok-answer_to.ensures)
