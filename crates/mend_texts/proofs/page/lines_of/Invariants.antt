use Rattle.std.proofs.Common.{length}
use Rattle.mend_texts.proofs.page.lines_of.Given as goal

abbrev pub decreases-loop-line : goal.decreases-loop-line
decreases-loop-line l = length l.left
