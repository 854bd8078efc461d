use Rattle.std.proofs.Common.{◌≡◌, ◌++◌, take}
use Rattle.std.specs.List.{flat_map}
use Rattle.image.specs.Spelling.{routine_bytes}
use Rattle.image.proofs.writing.put_routines.Given as goal

abbrev pub invariant-loop-routine : goal.invariant-loop-routine
invariant-loop-routine l = l.out.items ≡ l.fn.out.items
    ++ flat_map routine_bytes (take l.routine-index l.routines)
