use Rattle.image.proofs.Decoded.{bytes_spell_one}
use Rattle.image.proofs.laws.bytes_spell_one.Goals as goal

pub returns : goal.returns
returns c = bytes_spell_one
