use Rattle.std.proofs.Common.{◌≡◌, ◌+◌, length}
use Rattle.text.specs.Cut.{lines_of}
use Rattle.answer_explain.proofs.region.count_lines.Given as goal

abbrev pub invariant-loop-line : goal.invariant-loop-line
invariant-loop-line l = l.count + length l.left ≡ length (lines_of l.text)

abbrev pub decreases-loop-line : goal.decreases-loop-line
decreases-loop-line l = length l.left
