use Rattle.std.proofs.Common.{◌≡◌, ◌++◌, take}
use Rattle.std.specs.List.{flat_map}
use Rattle.image.specs.Spelling.{instruction_bytes}
use Rattle.image.proofs.writing.put_code.Given as goal

abbrev pub invariant-loop-instr : goal.invariant-loop-instr
invariant-loop-instr l = l.out.items ≡ l.fn.out.items
    ++ flat_map instruction_bytes (take l.instr-index l.code)
