use Rattle.std.proofs.Common.{◌≡◌, ◌≤◌, take}
use Rattle.std.specs.List.{sum_by}
use Rattle.drvhost_files.specs.Reading.{held_reads}
use Rattle.drvhost_files.proofs.reading.count_reads.Given as goal

abbrev pub invariant-loop-one : goal.invariant-loop-one
invariant-loop-one l =
    (l.count ≡ sum_by held_reads (take l.one-index l.held)) × (l.count ≤ l.one-index)
