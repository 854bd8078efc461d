use Rattle.asm.proofs.Declared.First.{named_is_faultless}
use Rattle.asm.proofs.laws.named_is_faultless.Goals as goal

pub returns : goal.returns
returns c = named_is_faultless
