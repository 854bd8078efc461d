use Rattle.std.proofs.Common.{◌≡◌, drop, map}
use Rattle.drvhost_tests.specs.Written.{mark_for, mark_in}
use Rattle.drvhost_tests.proofs.written.mark_in.Given as goal

-- the byte has none of the marks before
abbrev pub invariant-loop-mark : goal.invariant-loop-mark
invariant-loop-mark l =
    mark_in (map mark_for (drop l.mark-index l.marks)) l.byte
    ≡ mark_in (map mark_for l.marks) l.byte
