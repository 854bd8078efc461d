use Rattle.std.proofs.Common.{◌∙◌, refl, sym}
use Rattle.drvhost_devices.specs.Device.{Bytes}
use Rattle.drvhost_devices.proofs.Files.{image_read}
use Rattle.drvhost_devices.proofs.reading.set_of.Goals as goal

pub returns-then-begins_image-clause-set : goal.returns-then-begins_image-clause-set
returns-then-begins_image-clause-set c =
    let bytes = c.args.bytes.now in
    image_read (Bytes bytes) bytes c.set_of_image.result refl
    (sym c.begins_image.ensures ∙ c.if-begins_image.true) c.set_of_image.ensures
