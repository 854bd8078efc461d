use Rattle.std.proofs.Common.{refl}
use Rattle.drvhost_devices.specs.Device.{Bytes}
use Rattle.answer.proofs.AsText.{of_source}
use Rattle.answer_hunts.specs.declared.hunt.Way.TheVariants.{Quick}
use Rattle.answer_hunts.specs.Hunt.{IsHuntBy}
use Rattle.answer_hunts.proofs.hunt.hunt.Goals as goal

pub returns : goal.returns
returns c =
    let bytes = c.args.bytes.now in
    of_source (λ _. IsHuntBy Quick c.args.reach) _ (Bytes bytes) _
    (bytes, refl, c.in_ok-answer_to.ensures)
