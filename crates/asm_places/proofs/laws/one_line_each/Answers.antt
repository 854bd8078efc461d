use Rattle.asm_places.proofs.Alone.{one_line_each}
use Rattle.asm_places.proofs.laws.one_line_each.Goals as goal

pub returns : goal.returns
returns c = one_line_each
