use Rattle.std.proofs.Common.{◌≡◌, ◌++◌, length}
use Rattle.report_progress.specs.Line.{grouped}
use Rattle.report_progress.proofs.line.push_digits.Given as goal

abbrev pub decreases-loop-digit : goal.decreases-loop-digit
decreases-loop-digit l = length l.rest

abbrev pub invariant-loop-digit : goal.invariant-loop-digit
invariant-loop-digit l =
    l.bytes.items ++ grouped l.rest ≡ l.initial.bytes.items ++ grouped l.digits
