use Rattle.std.proofs.Common.{◌≡◌, ◌++◌, take}
use Rattle.mend_changes.specs.Edited.{all_shifted}
use Rattle.mend_changes.proofs.code.add_shifted.Given as goal

abbrev pub invariant-loop-instr : goal.invariant-loop-instr
invariant-loop-instr l =
    l.code.items ≡ l.fn.code.items ++ all_shifted l.shift (take l.instr-index l.added)
