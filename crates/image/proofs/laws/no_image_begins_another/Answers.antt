use Rattle.image.proofs.Decoded.{no_image_begins_another}
use Rattle.image.proofs.laws.no_image_begins_another.Goals as goal

pub returns : goal.returns
returns c = no_image_begins_another
