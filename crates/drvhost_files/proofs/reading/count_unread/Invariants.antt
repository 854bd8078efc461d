use Rattle.std.proofs.Common.{◌≡◌, ◌≤◌, take}
use Rattle.std.specs.List.{sum_by}
use Rattle.drvhost_files.specs.Reading.{failed_reads}
use Rattle.drvhost_files.proofs.reading.count_unread.Given as goal

abbrev pub invariant-loop-one : goal.invariant-loop-one
invariant-loop-one g l =
    (l.count ≡ sum_by (λ one. failed_reads one.is_unread) (take l.one-index l.answered))
    × (l.count ≤ l.one-index)
