use Rattle.image.proofs.Decoded.{images_are_faultless}
use Rattle.image.proofs.laws.images_are_faultless.Goals as goal

pub returns : goal.returns
returns c = images_are_faultless
