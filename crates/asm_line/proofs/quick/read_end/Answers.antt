use Rattle.asm_line.proofs.Steps.{end_read}
use Rattle.asm_line.proofs.quick.read_end.Goals as goal

pub returns-in-Some-clause-read : goal.returns-in-Some-clause-read
returns-in-Some-clause-read c =
    end_read c.in-Some.ensures c.in_ok-end.ensures
